pub mod Counts
pub mod Slices
