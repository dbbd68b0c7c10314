pub mod CommandFacts
pub mod Options
