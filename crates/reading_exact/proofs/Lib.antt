pub mod Law
mod Starts
