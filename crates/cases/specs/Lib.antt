pub mod Hex
pub mod Cases
pub mod Rounds
pub mod TagByTag
pub mod Drops
