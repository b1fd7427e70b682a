pub mod Rows
pub mod Verdicts
pub mod EntityLines
pub mod Accepted
pub mod Places
