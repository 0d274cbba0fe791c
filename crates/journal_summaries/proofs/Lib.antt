pub mod Listed
pub mod Replayed
pub mod Flowing
pub mod Registers
pub mod Counted
pub mod Sealed
pub mod Running
mod Worked
mod Named
