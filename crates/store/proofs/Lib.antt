pub mod Sums
pub mod Changes
pub mod Standing
pub mod Places
