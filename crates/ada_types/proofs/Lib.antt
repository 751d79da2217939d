pub mod Besides
pub mod Fitting
pub mod Holding
pub mod Waiting
