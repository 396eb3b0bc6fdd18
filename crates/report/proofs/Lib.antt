mod Texts
mod Reports
pub mod StationLines
pub mod Judging
