pub mod Additive
pub mod Bounds
pub mod Merges
pub mod Reports
pub mod Tallies
pub mod Timed
pub mod Written
