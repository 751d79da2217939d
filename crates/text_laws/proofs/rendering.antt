-- What items are laid out as falls into their tokens.
pub mod Steps
pub mod Words
pub mod Fitting
pub mod Comments
pub mod Lines
pub mod Law
