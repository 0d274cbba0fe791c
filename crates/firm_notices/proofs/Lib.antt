pub mod Growing
pub mod Listed
pub mod Reading
pub mod Importing
pub mod OneReading
