pub mod Played
pub mod Round
