pub mod Answers
pub mod Sending
pub mod Driven
pub mod Unique
pub mod Rows
