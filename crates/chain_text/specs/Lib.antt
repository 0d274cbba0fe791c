pub mod Texts
pub mod Given
pub use Rattle.chain_explain as chain_explain
