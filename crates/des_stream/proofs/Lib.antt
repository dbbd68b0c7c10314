pub mod Drawn
mod Rows
mod SeedKey
