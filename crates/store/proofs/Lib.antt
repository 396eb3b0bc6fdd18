pub mod Squares
pub mod Checks
mod Counts
pub mod Marks
