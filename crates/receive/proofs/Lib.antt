pub mod Receiving
pub mod Unique
