pub mod Costs
pub mod Primaries
