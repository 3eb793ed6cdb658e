-- Laws of numbers three at a time, and of what the checks leave for the loop that writes the records.
pub mod Records
pub mod Written
