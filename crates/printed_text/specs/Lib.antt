pub mod Statuses
pub mod Texts
pub mod Printing
pub mod Writing
pub use Rattle.served_lines.specs.act_bodies as act_bodies
pub use Rattle.served_lines.specs.claim_book as claim_book
pub use Rattle.served_lines.specs.claim_history as claim_history
pub use Rattle.entry_text as entry_text
pub use Rattle.served_lines.specs.fault_count as fault_count
pub use Rattle.firm_notices as firm_notices
pub use Rattle.served_lines.specs.limited_book as limited_book
pub use Rattle.served_lines.specs.request_text as request_text
pub use Rattle.served_lines.specs.round_cut as round_cut
pub use Rattle.served_lines as served_lines
pub use Rattle.setoff_model as setoff_model
pub use Rattle.statement_text as statement_text
pub use Rattle.served_lines.specs.text_lines as text_lines
