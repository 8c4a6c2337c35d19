-- What a user sees of an end of a run, and the outcomes that several ends have.
use Rattle.std.specs.Prelude.{◌==◌, ℕ, Bool, List, [], ◌∷◌, Option, codes, cond, drop, not, suc}
use Rattle.std.specs.List.{filter, starts_with}
use Rattle.asp_model.specs.Names.{Text, same_text}
use Rattle.asp_model.specs.Report.{text_of}
use Rattle.def_paths.specs.Outcomes.{WholeOutcome, report_lines_to}

-- the line shows the log of an activity
abbrev pub is_log_line : List ℕ → Bool
is_log_line line = starts_with (λ a b. a == b) line (codes "senders")

-- the text of those lines that show no log
abbrev pub seen_among : List (List ℕ) → Text
seen_among lines = text_of (filter (λ l. not (is_log_line l)) lines)

-- what is seen of an end: its report, at a depth, without the first line and without the logs
abbrev pub text_seen : Option ℕ → WholeOutcome → Text
text_seen depth o = seen_among (drop 1 (report_lines_to depth o))

-- an outcome: its text, how many ends have it, and the number of the first of them, from 0
pub record Outcome : Type 0 where
  pub text : Text
  pub ends : ℕ
  pub first : ℕ

-- one end more, with its number and its text: it is counted where its text stands, or it is a new outcome
abbrev pub with_end : ℕ → Text → List Outcome → List Outcome
with_end i t [] = record { text = t; ends = 1; first = i } ∷ []
with_end i t (o ∷ os) = cond (same_text t o.text) (record o { ends = suc o.ends } ∷ os) (o ∷ with_end i t os)

-- and some ends more, the first of which has this number
abbrev pub with_ends : ℕ → List Text → List Outcome → List Outcome
with_ends i [] os = os
with_ends i (t ∷ ts) os = with_ends (suc i) ts (with_end i t os)

-- the outcomes of ends with these texts, in the order in which they come first
abbrev pub outcomes_among : List Text → List Outcome
outcomes_among texts = with_ends 0 texts []
