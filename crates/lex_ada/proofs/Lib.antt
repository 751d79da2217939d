pub mod Lengths
pub mod lexing
pub mod Turns
