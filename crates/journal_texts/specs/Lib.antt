pub mod Calls
pub mod DiskTexts
pub mod Journals
pub use Rattle.bureau_desk as bureau_desk
pub use Rattle.printed_text as printed_text
