pub mod Names
pub mod Entities
