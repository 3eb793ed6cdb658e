-- Laws of lists of vectors.
pub mod Vectors
pub mod Norm
