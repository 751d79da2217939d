mod Arguments
mod Classes
mod Classify
pub mod Held
mod Keys
mod Kids
pub mod Law
mod Lazy
mod Lists
mod Members
mod Moves
mod Names
mod Nodes
mod Own
mod Pieces
mod Places
mod Readers
mod Routes
mod Seeking
mod Stages
mod Starts
mod Symbols
mod Tests
mod Texts
mod Walks
