pub mod Sound
pub mod Receiving
pub mod Sending
pub mod Unique
