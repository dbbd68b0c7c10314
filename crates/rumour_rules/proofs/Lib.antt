pub mod Counted
pub mod Runnable
