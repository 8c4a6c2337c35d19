-- in reading order
pub mod LongLemmas
pub mod RenewLemmas
