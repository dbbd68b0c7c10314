pub mod Digits
pub mod Distance
pub mod Leading
pub mod Meeting
pub mod Powers
