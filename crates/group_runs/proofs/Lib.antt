pub mod Lines
pub mod FirstClose
pub mod Answered
pub mod Order
pub mod Served
