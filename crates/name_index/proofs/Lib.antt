pub mod Added
pub mod Rows
pub mod Places
pub mod Pushed
pub mod Guessed
pub mod Threads
