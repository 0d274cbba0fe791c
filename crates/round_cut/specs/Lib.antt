pub mod Windows
pub mod CutOfFacts
pub mod CutLaw
pub mod Growing
pub use Rattle.claim_history as claim_history
pub use Rattle.claim_history.specs.fault_count as fault_count
pub use Rattle.name_index as name_index
