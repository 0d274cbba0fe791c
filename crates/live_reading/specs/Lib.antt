pub mod Handing
pub mod Rings
pub mod Reading
pub mod Sparing
pub mod Reader
pub mod Fronts
pub use Rattle.input_front as input_front
