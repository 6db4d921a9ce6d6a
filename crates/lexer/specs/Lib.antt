pub mod Lexing
pub mod Wording
