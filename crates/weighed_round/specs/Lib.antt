pub mod Forecast
pub mod Weighed
pub use Rattle.printed_text.specs.claim_history as claim_history
pub use Rattle.printed_text.specs.entry_text as entry_text
pub use Rattle.printed_text.specs.fault_count as fault_count
pub use Rattle.printed_text.specs.firm_notices as firm_notices
pub use Rattle.printed_text as printed_text
pub use Rattle.printed_text.specs.request_text as request_text
pub use Rattle.printed_text.specs.statement_text as statement_text
