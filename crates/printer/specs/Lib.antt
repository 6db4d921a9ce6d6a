pub mod Printed
pub mod Writing
pub mod Records
