pub mod Nets
pub mod Refusals
pub mod Squares
pub mod Matrices
pub mod MatrixLaws
