-- in reading order
pub mod RenewalLemmas
