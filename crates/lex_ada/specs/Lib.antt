pub mod Cutting
pub mod Faults
pub mod Lexis
pub mod Meanings
pub mod Rendered
pub mod Scans
