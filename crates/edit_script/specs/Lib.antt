pub mod Commands
pub mod Values
pub mod Table
pub mod Lines
pub mod Scripts
