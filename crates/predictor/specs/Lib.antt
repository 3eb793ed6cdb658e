pub mod Coefficients
pub mod Boundary
pub mod Prediction
pub mod Bundles
