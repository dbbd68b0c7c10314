pub mod Ends
pub mod Late
pub mod Puts
pub mod Runs
