pub mod Struct
pub mod Claims
