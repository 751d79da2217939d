pub mod Definitions
pub mod Sizes
