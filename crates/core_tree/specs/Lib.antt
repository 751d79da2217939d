pub mod Formed
pub mod Marks
pub mod Once
pub mod Sorts
pub mod Trees
