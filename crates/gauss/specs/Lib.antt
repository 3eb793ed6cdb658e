pub mod Gauss
pub mod Pressure
pub mod Calls
