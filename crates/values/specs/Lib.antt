pub mod Options
pub mod Values
