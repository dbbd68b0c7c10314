pub mod Counted
pub mod OngoingHistories
pub mod OngoingStarts
pub mod Accounts
pub mod Ends
