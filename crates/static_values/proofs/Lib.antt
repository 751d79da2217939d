pub mod Firsts
pub mod Numbers
pub mod Ranges
pub mod Seen
pub mod Statics
