pub mod Checked
pub mod Corrected
