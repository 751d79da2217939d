pub mod Lists
pub mod Few
pub mod Lines
pub mod Answering
pub mod Digits
pub mod Rows
mod Examples
