pub mod Vendor
pub mod Sound
pub mod SettingUp
pub mod Fitting
pub mod Finishing
pub mod Steps
pub mod Unique
