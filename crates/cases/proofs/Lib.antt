pub mod Claims
pub mod Sure
pub mod Cases
pub mod TagByTag
pub mod Drops
pub mod TwoRuns
