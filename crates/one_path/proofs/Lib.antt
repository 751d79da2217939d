pub mod Meeting
pub mod Numbers
pub mod examples
