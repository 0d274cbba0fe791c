pub mod Beginnings
pub mod Adding
pub mod Ruled
pub mod Rows
pub mod Same
pub mod Settled
pub mod Putting
pub mod Touching
