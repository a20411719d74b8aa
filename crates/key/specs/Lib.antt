pub mod Meaning
pub mod Soundness
pub mod SetUp
pub mod VendorHid
pub mod Stepping
pub mod Questions
