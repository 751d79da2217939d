pub mod Causes
pub mod Endings
pub mod Events
pub mod FirstBytes
pub mod Outputs
pub mod Runs
pub mod Writing
