mod Faults
pub mod Refusals
