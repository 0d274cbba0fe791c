pub mod Limits
pub mod Needs
pub mod Publications
