pub mod Numbers
pub mod Record
