pub mod Longer
pub mod InTurn
pub mod Each
mod Lanes
mod Devices
mod Costs
mod Uses
pub mod Bound
pub mod OfLane
