pub mod Allocating
pub mod Locking
