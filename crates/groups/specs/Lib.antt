pub mod Groups
pub mod Check
pub mod Claims
