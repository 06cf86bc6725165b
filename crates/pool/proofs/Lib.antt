pub mod Gathered
pub mod Links
pub mod Held
pub mod Moves
pub mod Fresh
pub mod Keeping
pub mod Found
