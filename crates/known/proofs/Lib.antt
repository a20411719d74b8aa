pub mod Bits
pub mod Requests
pub mod Unique
