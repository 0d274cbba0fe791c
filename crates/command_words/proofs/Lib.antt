pub mod Commands
pub mod Found
pub mod Walks
pub mod Chains
