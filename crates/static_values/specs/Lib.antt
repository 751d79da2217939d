pub mod Components
pub mod Entities
pub mod Expressions
pub mod Forms
pub mod Judging
pub mod Rules
pub mod Syntax
