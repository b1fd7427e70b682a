pub mod Ascii
pub mod Bytes
pub mod Lines
pub mod Split
