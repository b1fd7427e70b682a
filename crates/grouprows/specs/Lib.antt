pub mod Groups
pub mod Claims
