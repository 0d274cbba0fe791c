pub mod Lines
pub mod Order
pub mod Runs
pub use Rattle.disk_witness as disk_witness
pub use Rattle.group_loader as group_loader
