-- The phases of a cell, what every append keeps, the whole, and the soundness of an accepted stencil.
pub mod Laws
pub mod Within
pub mod Whole
pub mod Sound
