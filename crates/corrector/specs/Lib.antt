pub mod Diagonal
pub mod Correction
pub mod Promise
pub mod Velocity
pub mod Metrics
