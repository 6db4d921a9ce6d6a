pub mod Bounds
pub mod Code
pub mod Events
pub mod Laws
