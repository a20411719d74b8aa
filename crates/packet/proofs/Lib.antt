pub mod Parts
pub mod Packets
pub mod Numbers
pub mod Unique
