pub mod Headline
pub mod Due
pub mod Inputs
pub mod Causes
pub mod Completeness
