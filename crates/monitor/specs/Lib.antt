pub mod Table
pub mod Calls
pub mod Finish
pub mod Claims
