-- in reading order
pub mod PrintLemmas
pub mod ProgramLaws
pub mod ReportLaws
