pub mod Pairs
pub mod Search
pub mod Chains
pub mod Sound
