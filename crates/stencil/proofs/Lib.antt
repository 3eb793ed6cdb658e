-- What the checks establish, and how a chain is listed. Laws of the work stand with its modules, below `inner`.
pub mod Walks
pub mod Buildable
