pub mod Sound
pub mod Receiving
pub mod Refusing
pub mod Fields
pub mod Unique
