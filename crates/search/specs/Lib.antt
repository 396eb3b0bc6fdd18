pub mod Kinds
pub mod Searches
pub mod Cliques
pub mod Strips
pub mod Layers
pub mod Calls
pub mod Counts
pub mod Lists
