pub mod Keepable
pub mod Readers
pub mod Values
pub mod Calls
pub mod Loops
pub mod Found
pub mod Lengths
pub mod Written
pub mod Tags
mod Worked
