pub mod Accounts
pub use Rattle.journal_texts.specs.DiskTexts as DiskTexts
pub mod Inputs
pub mod Journals
pub use Rattle.history_text as history_text
pub use Rattle.journal_summaries as journal_summaries
pub use Rattle.journal_texts as journal_texts
