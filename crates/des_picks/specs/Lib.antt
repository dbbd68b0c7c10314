pub mod Workers
pub mod Picked
pub mod PickedRuns
