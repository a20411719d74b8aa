pub mod Kept
pub mod ReadBack
pub mod Digits
pub mod AsWritten
pub mod Unique
pub mod Examples
