pub mod Tables
pub mod Notices
pub mod Positions
pub mod Rows
pub mod Invoices
