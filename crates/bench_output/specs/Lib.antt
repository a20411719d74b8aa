pub mod Placing
pub mod Packets
pub mod Printing
pub mod Examples
