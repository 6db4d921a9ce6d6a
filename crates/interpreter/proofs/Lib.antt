pub mod Answered
pub mod Loops
pub mod Turns
