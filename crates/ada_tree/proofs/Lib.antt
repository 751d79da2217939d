pub mod evaluator
pub mod examples
pub mod Found
pub mod Parts
pub mod Trees
pub mod Weights
