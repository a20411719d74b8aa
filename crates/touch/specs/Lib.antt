pub mod Meaning
pub mod Waiting
pub mod Runs
