-- Laws of whole numbers and of bit patterns that the proofs of the square root use.
pub mod Squares
mod Rounding
pub mod Patterns
pub mod Middles
pub mod Returned
mod Amounts
mod Settled
pub mod Placed
