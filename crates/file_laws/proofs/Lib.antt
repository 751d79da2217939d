pub mod Beginnings
pub mod Documents
