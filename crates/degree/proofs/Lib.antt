-- Laws of counts and of short chains.
pub mod Counting
pub mod Chained
