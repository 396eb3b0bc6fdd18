pub mod Inclusions
pub mod Includes
