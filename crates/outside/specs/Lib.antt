pub mod Entries
pub mod Meaning
pub mod MemoryShelf
pub mod MemorySink
pub mod Output
pub mod Plan
pub mod Statuses
pub mod System
