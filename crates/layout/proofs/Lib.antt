pub mod Walks
pub mod Chains
pub mod Layouts
pub mod Building
pub mod Whole
