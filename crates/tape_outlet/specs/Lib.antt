pub mod Numbers
pub mod Written
pub mod Holding
pub mod Kept
