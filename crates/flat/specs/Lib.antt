pub mod Telling
pub mod TellingWaits
pub mod TellingFragments
