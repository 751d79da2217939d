mod Advances
pub mod Alike
mod Bounding
mod Building
pub mod Counting
mod Endings
mod Higher
mod Known
mod Lines
mod Rows
mod Stacks
mod Steps
mod Wide
