pub mod Agreement
pub mod Lists
pub mod Places
pub mod Powers
pub mod Reaches
pub mod Rings
