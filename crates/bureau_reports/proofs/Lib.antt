pub mod Accounts
pub mod Counted
pub mod Explained
pub mod Held
pub mod Verdicts
pub mod Viewed
pub mod Written
