pub mod Starts
pub mod Verdicts
