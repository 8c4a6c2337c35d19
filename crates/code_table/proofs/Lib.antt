-- in reading order
pub mod TermTrees
pub mod TableLemmas
pub mod GrowthLemmas
pub mod LookupLemmas
pub mod KeyLemmas
pub mod NumberLemmas
pub mod UsesLemmas
pub mod CodedLemmas
pub mod ColumnLemmas
pub mod AnswerLemmas
pub mod OrderLemmas
pub mod PlacesLemmas
pub mod FitsLemmas
