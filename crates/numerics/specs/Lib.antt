pub mod Slices
pub mod Gradient
pub mod Outflow
pub mod Bundles
