pub mod Worlds
pub mod Dones
pub mod PartRuns
pub mod Ordering
pub mod PickedRuns
