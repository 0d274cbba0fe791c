pub mod Inputs
pub mod Openings
pub mod Room
pub mod Silent
pub mod Written
