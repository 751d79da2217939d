pub mod Fronts
pub mod Lying
mod Outcomes
mod Runs
mod Tails
mod Thin
