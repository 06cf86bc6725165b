pub mod Numbers
pub mod Holding
pub mod Laws
