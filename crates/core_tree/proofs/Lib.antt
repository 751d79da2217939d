pub mod Ascending
pub mod Called
pub mod examples
