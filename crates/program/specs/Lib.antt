pub mod Programs
pub mod Building
pub mod Walking
