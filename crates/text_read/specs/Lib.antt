pub mod Answers
pub mod Exactly
pub mod Faults
pub mod Files
pub mod FirstWords
pub mod Fragments
pub mod Fronts
pub mod Told
