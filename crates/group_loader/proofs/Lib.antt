pub mod Grown
pub mod Taken
pub mod Kept
