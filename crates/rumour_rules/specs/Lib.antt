pub mod Counts
pub mod Range
pub mod Rules
pub mod Sound
