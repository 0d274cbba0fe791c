pub mod Known
mod Counted
mod Reading
mod Written
