pub mod Lists
pub mod Padding
