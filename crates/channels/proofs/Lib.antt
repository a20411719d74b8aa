pub mod Valid
pub mod Inits
pub mod Locks
pub mod Unique
