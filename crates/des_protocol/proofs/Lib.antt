pub mod Tellers
pub mod Firsts
