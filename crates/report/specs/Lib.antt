pub mod Lines
pub mod Texts
pub mod Promise
pub mod Verdicts
pub mod Judgements
