-- What the checks establish of a grid.
pub mod Coupled
