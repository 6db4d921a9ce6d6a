pub mod Steps
pub mod Tokenizing
pub mod Words
pub mod Reading
pub mod Printing
pub mod Accepting
pub mod Refusing
mod Examples
