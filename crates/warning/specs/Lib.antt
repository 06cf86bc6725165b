pub mod Numbers
pub mod Networks
pub mod Notice
pub mod Meaning
pub mod Rules
pub mod Contents
pub mod Refusals
