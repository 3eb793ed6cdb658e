-- What the tests of a program say of a float; a float's units and the laws of rounding; opposite operands; and the laws that specs/Laws.antt states.
pub mod Bits
pub mod Parts
pub mod Integers
mod Grid
pub mod Value
pub mod Addition
mod Rounded
pub mod Summation
pub mod Sign
pub mod Opposites
pub mod Kept
pub mod Identical
pub mod Laws
