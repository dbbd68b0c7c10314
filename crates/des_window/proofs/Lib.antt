pub mod Clocks
pub mod Divided
pub mod EventLists
pub mod Horizons
pub mod Openings
pub mod Shares
