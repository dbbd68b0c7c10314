pub mod Answers
pub mod Faults
pub mod LatencyFiles
pub mod Plans
pub mod Played
pub mod Readings
pub mod Texts
