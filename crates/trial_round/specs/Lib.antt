pub mod Draws
pub mod Input
pub mod Trial
pub mod Round
pub mod Opening
