pub mod Tokens
pub mod Words
pub mod Reading
pub mod Printing
pub mod Grammar
