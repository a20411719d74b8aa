pub mod Numbers
pub mod Soundness
pub mod Reading
pub mod Writing
