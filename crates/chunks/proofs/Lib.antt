pub mod Chunks
pub mod Lists
