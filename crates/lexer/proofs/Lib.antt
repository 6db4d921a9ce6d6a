pub mod Runs
pub mod Calls
pub mod Folds
pub mod Valued
