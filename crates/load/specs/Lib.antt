pub mod Tables
pub mod Load
pub mod Claims
