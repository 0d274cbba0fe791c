pub mod TakenInputs
pub mod Risen
pub mod Commands
pub mod Served
pub mod Bound
mod Statuses
pub mod Completeness
pub mod Inputs
pub mod InputCauses
pub mod JournalCauses
pub mod RunCauses
pub mod LiveCauses
pub mod ComesWhere
pub mod ComesOnly
mod Tied
mod Images
mod Histories
