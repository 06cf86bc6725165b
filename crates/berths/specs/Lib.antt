pub mod Numbers
pub mod Berthed
pub mod Holding
pub mod Laws
