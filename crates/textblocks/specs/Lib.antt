pub mod Blocks
pub mod CallsIn
