pub mod Puts
pub mod Spelling
pub mod Cutting
pub mod Answers
pub mod Unique
pub mod Examples
