pub mod Ink
pub mod SequentLines
pub mod Symbols
pub mod Tasks
pub mod TermTrees
pub mod Pens
pub mod Reread
