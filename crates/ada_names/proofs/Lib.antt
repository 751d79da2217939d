pub mod Indexes
pub mod Grown
pub mod Exceptions
pub mod Marks
