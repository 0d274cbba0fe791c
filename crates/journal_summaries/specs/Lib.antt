pub mod Replay
pub mod Account
pub mod PoolList
pub mod Seal
pub mod SummaryLaws
