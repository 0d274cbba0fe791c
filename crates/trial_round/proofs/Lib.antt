pub mod Drawn
pub mod Named
pub mod Texts
pub mod Claims
pub mod Asked
pub mod Batch
pub mod Replayed
pub mod Rounded
pub mod Lines
pub mod Main
pub mod Acts
pub mod Found
pub mod Pieces
pub mod Bound
pub mod Opened
pub mod Ends
pub mod Judged
mod Worked
