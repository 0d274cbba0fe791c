pub mod Lines
pub mod Statements
pub mod Drafts
pub mod Steps
pub mod Causes
pub mod Weighed
