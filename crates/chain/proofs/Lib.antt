-- Laws of truth values, searches and chains.
pub mod Truth
pub mod Search
pub mod Chains
pub mod Onward
