pub mod Conditions
pub mod Form
