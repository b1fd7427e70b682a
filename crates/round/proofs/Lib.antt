pub mod Calls
pub mod Round
