pub mod BytesSink
pub mod BytesSource
pub mod Calls
pub mod Standard
pub mod Streams
