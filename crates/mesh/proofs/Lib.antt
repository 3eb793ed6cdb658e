-- Laws of passes, and what the checks establish.
pub mod Values
pub mod Facts
pub mod Distances
pub mod Good
pub mod Made
