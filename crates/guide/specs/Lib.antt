pub mod Reports
pub mod RunReports
