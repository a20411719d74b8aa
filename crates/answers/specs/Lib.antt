pub mod Answers
pub mod Replies
pub mod Payloads
