-- What the checks establish, and what is handed out.
pub mod Passed
pub mod Handed
