pub mod Meaning
pub mod Assembler
