pub mod AtHub
pub mod InForm
pub mod Groups
pub mod Effects
pub mod Cases
pub mod Checks
