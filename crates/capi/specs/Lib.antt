-- The answers of the entries as C has them.
pub mod Told
