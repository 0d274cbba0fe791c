pub mod Words
pub mod Causes
pub mod Requests
pub mod Orders
pub mod ReadBack
pub mod Worked
pub mod Given
