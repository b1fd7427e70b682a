pub mod Watering
pub mod Columns
pub mod Trials
