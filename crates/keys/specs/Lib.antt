pub mod Entries
pub mod Kinds
pub mod Limits
pub mod Lists
pub mod Memory
pub mod Numbers
pub mod Agree
