-- Sums over cells, the terms of a cell, the balance that they close to, and the bound of few terms.
pub mod Sums
pub mod Terms
pub mod Telescope
pub mod Closes
pub mod Few
