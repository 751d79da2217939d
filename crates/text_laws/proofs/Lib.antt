pub mod apart
mod rendering
pub mod round_trip
