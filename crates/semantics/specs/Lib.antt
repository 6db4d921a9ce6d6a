pub mod Commands
pub mod Denoting
pub mod Laws
pub mod Meaning
pub mod Running
