pub mod Lists
pub mod Dones
pub mod Exchanged
