pub mod Digits
pub mod Place
pub mod Table
pub mod Distinct
