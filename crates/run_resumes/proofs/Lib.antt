pub mod ResumeLemmas
