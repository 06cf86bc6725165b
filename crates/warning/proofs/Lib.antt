pub mod Judging
pub mod Standing
