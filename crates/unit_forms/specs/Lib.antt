pub mod Bodies
pub mod BodyForms
pub mod Forms
pub mod Syntax
