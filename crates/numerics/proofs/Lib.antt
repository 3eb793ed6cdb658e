-- What the checks of an entry establish, and the laws of its sums.
pub mod Flows
pub mod Scatter
pub mod Slopes
