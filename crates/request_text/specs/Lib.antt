pub mod Lanes
pub mod Pools
pub mod Causes
pub mod Grammar
pub mod Batches
pub use Rattle.claim_history as claim_history
pub use Rattle.claim_history.specs.fault_count as fault_count
pub use Rattle.text_lines as text_lines
