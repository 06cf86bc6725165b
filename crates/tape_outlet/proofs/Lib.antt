pub mod Tapes
pub mod Writes
