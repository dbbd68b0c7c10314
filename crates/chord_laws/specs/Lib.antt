pub mod Ongoing
pub mod Accounts
pub mod Ends
