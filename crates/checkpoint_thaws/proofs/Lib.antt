mod HomeLemmas
mod StandLemmas
