pub mod Limited
pub mod Publications
pub use Rattle.act_bodies as act_bodies
pub use Rattle.claim_book as claim_book
pub use Rattle.claim_book.specs.claim_history as claim_history
pub use Rattle.claim_book.specs.fault_count as fault_count
pub use Rattle.claim_book.specs.name_index as name_index
pub use Rattle.claim_book.specs.round_cut as round_cut
pub use Rattle.setoff_checker as setoff_checker
pub use Rattle.setoff_model as setoff_model
