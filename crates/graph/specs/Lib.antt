pub mod Graphs
pub mod Links
pub mod Pairs
pub mod Search
pub mod Kinds
pub mod Theorems
pub mod Small
