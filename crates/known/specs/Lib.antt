pub mod Vendor
pub mod Meaning
