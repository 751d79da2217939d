pub mod Complete
pub mod Lines
pub mod Sound
pub mod Tests
pub mod Ways
