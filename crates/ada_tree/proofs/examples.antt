pub mod Declarations
pub mod Expressions
pub mod Notes
pub mod Spellings
pub mod Statements
pub mod Units
mod Tables
