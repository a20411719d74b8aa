pub mod Laying
pub mod Fronts
pub mod Unique
