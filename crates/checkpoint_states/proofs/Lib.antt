mod StateLemmas
mod ActivityLemmas
