-- How a linked pair leaves prediction.
pub mod Pairs
