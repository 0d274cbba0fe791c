pub mod Ends
pub mod Served
pub mod Bound
pub use Rattle.limited_book.specs.act_bodies as act_bodies
pub use Rattle.limited_book.specs.claim_book as claim_book
pub use Rattle.limited_book.specs.claim_history as claim_history
pub use Rattle.limited_book.specs.fault_count as fault_count
pub use Rattle.limited_book as limited_book
pub use Rattle.request_text as request_text
pub use Rattle.limited_book.specs.round_cut as round_cut
pub use Rattle.limited_book.specs.setoff_checker as setoff_checker
pub use Rattle.request_text.specs.text_lines as text_lines
