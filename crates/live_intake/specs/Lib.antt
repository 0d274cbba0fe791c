pub mod Segments
pub mod Meeting
pub mod Joining
pub mod Batching
pub mod Rooms
pub mod Live
pub use Rattle.lane_runner.specs.bureau_desk as bureau_desk
pub use Rattle.live_reading.specs.input_front as input_front
pub use Rattle.live_reading as live_reading
pub use Rattle.lane_runner.specs.recorded_book as recorded_book
pub use Rattle.lane_runner.specs.shared_bureau as shared_bureau
