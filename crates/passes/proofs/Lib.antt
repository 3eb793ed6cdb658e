pub mod Stages
pub mod Each
