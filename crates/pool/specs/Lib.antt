pub mod Numbers
pub mod Chains
pub mod Holding
pub mod Laws
