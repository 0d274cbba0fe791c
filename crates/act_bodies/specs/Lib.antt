pub mod Bodies
pub mod Laws
pub mod Reading
pub use Rattle.claim_history as claim_history
pub use Rattle.claim_history.specs.fault_count as fault_count
