pub mod Divisions
pub mod Openings
pub mod Shares
