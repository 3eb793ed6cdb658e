pub mod Balance
pub mod Quotable
