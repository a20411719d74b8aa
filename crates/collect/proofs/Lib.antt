pub mod Adding
pub mod Unique
pub mod Standing
