pub mod SenderLemmas
pub mod FurtherLemmas
