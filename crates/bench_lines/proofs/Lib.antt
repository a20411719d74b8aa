pub mod Answered
pub mod Standard
pub mod Unique
