pub mod Call
pub mod Lent
pub mod Bundles
pub mod Work
