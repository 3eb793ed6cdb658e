pub mod Degree
pub mod Counts
