pub mod Passing
pub mod Printing
pub mod Members
pub mod Statuses
