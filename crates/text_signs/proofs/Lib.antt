mod Comments
mod Examples
pub mod Law
mod Names
mod Numbers
mod Pieces
mod Words
