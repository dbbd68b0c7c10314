pub mod Runs
pub mod Simulable
pub mod Times
