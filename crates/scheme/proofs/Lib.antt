-- What the parts of the step ask for, and what an accepted step promises.
pub mod Parts
pub mod Fitting
pub mod Demanded
pub mod Exemplified
