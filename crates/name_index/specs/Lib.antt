pub mod Indexes
