pub mod Forecasts
pub mod Overdue
pub mod Lines
