-- What the checks establish, and the laws of the sums.
pub mod Passed
pub mod Alike
