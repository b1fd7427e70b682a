pub mod Tally
pub mod Claims
