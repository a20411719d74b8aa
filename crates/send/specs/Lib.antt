pub mod Sending
pub mod Sender
