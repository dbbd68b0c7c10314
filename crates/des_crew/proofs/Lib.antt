pub mod Lists
pub mod Counts
pub mod Steps
pub mod Knowledge
pub mod Results
pub mod Gathering
pub mod WindowResults
