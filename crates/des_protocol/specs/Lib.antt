pub mod Protocols
pub mod Tellers
pub mod Inside
pub mod Numbered
pub mod Laws
pub mod Told
pub mod Simulable
