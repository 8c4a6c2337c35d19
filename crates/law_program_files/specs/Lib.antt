-- in reading order
pub mod Programs
pub mod Reports
