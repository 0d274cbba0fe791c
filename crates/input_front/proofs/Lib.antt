pub mod Fronts
mod Keeping
mod Parts
pub mod Reading
mod Spelled
