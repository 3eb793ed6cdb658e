pub mod Started
pub mod Linked
