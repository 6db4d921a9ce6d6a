pub mod Acts
pub mod Alike
pub mod Courses
pub mod Denoting
pub mod Meanings
pub mod Runs
pub mod Staying
