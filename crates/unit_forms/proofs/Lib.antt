pub mod Fusion
pub mod Seen
pub mod Shown
pub mod examples
