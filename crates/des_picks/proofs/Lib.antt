pub mod WorkerSteps
pub mod PickedSteps
pub mod PickedTurns
pub mod PickedWindows
pub mod PickedCourse
