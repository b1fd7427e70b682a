pub mod Pages
mod Input
pub mod Worked
