pub mod Faults
pub mod Watched
pub mod Writing
