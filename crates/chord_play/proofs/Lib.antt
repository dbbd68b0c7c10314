pub mod Idents
pub mod Readings
pub mod Runs
