-- The search for the next cell of a ring.
pub mod Laws
