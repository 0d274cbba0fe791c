pub mod Cutting
pub mod Joining
pub mod Spaces
pub mod Visible
