pub mod Counting
pub mod Pieces
pub mod Cells
pub mod Records
