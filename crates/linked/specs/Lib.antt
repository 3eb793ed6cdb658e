pub mod Linked
pub mod Bundles
