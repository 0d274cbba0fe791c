pub mod Days
pub mod Acts
pub mod Facts
pub mod Cut
pub mod States
pub mod History
pub mod Callers
pub mod Rounds
pub mod Laws
pub mod Register
pub mod Needs
pub mod Touched
pub mod Pools
pub mod PoolNeeds
pub mod PoolLaws
pub mod PoolRounds
pub use Rattle.fault_count as fault_count
