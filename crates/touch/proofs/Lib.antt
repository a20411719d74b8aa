pub mod Stepping
pub mod Sending
pub mod Runs
pub mod Unique
