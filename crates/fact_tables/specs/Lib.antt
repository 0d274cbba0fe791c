pub mod Tables
pub mod Sums
pub mod Settling
pub mod Marks
