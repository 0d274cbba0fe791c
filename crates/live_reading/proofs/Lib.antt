pub mod Handing
mod Sending
pub mod InReading
pub mod Spared
mod Passed
