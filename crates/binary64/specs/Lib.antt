pub mod Numbers
pub mod Root
pub mod Significand
pub mod Units
pub mod Laws
