pub mod Draws
pub mod Seats
pub mod Inside
pub mod Shifts
pub mod Windows
pub mod Worlds
