pub mod Corrected
pub mod Bundles
