-- in reading order
pub mod HeadLemmas
pub mod HeadRowLemmas
pub mod HeadIntentLemmas
pub mod HeadLaws
pub mod NumberLemmas
pub mod OutcomeLemmas
pub mod ReportLaws
pub mod TokenLemmas
pub mod GrammarLemmas
pub mod ProgramLaws
pub mod LabelLemmas
