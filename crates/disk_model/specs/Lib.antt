pub mod Calls
pub mod Steps
pub mod Memory
pub mod MemoryState
pub mod ReadsNow
pub mod Untold
pub mod Runs
pub mod Words
