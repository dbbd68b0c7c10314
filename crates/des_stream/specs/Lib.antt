pub mod Word
pub mod Streams
pub mod Draws
