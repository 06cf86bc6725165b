pub mod Rows
pub mod Counts
pub mod Copies
pub mod Puts
