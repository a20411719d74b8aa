pub mod Refusing
pub mod Pieces
pub mod Hex
pub mod Lines
pub mod Examples
