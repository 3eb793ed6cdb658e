pub mod Step
pub mod Demand
pub mod Examples
