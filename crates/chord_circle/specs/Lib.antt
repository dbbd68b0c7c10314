pub mod Circle
pub mod Names
