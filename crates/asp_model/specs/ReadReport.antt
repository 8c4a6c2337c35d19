-- What a report says of a run: its logs and its counts, or its first line that cannot stand in its place.
use Rattle.std.specs.Prelude.{ℕ, suc, nat_le, ◌&&◌, Bool, true, false, List, [], ◌∷◌, ◌++◌, Option, Some, None, codes}
use Rattle.std.specs.Ordering.{is_lt}
use Rattle.asp_model.specs.declared.limits.TheConstants.{MOST_REDUCTIONS}
use Rattle.asp_model.specs.Names.{Name, Text, main_name, name_cmp, same_name, same_text}
use Rattle.asp_model.specs.Term.{has_text}
use Rattle.asp_model.specs.Configuration.{ReceptionShape}
use Rattle.asp_model.specs.Step.{ListsShape}
use Rattle.asp_model.specs.Replay.{CountsShape, total}
use Rattle.asp_model.specs.ReportLines.{parts, verdict_lines, activity_in, senders_of, is_output}

-- what may stand in the next line
pub data Next : Type 0 where
  Title : Next
  Verdict : Next
  -- the activity line of main
  Main : Next
  -- the senders line of this activity
  Senders : (name : Name) → Next
  -- an output, the line of an activity with a greater name, or the end
  Later : (name : Name) → Next

-- how far a report was read: what may come next, and what was read so far
pub record Progress : Type 0 where
  pub next : Next
  pub lists : ListsShape
  pub counts : CountsShape
  -- a log may have polls
  pub polls : Bool

-- further, where the line is right
abbrev pub goes_on : Next → Progress → Bool → Option Progress
goes_on next p true = Some (record p { next = next })
goes_on next p false = None

-- with an activity line whose name fits here; the counts up to it sum to at most 10,000,000
abbrev pub with_activity : (Name → Bool) → Progress → Option (Name × ℕ) → Option Progress
with_activity fits p None = None
with_activity fits p (Some a) = elim (fits a.0 && nat_le (total (p.counts ++ a ∷ [])) MOST_REDUCTIONS) [
  | true ↦ Some (record p { next = Senders a.0; counts = p.counts ++ a ∷ [] })
  | false ↦ None
]

-- with a senders line, where it could be read
abbrev pub with_senders : Name → Progress → Option (List ReceptionShape) → Option Progress
with_senders n p None = None
with_senders n p (Some log) = Some (record p { next = Later n; lists = p.lists ++ (n, log) ∷ [] })

-- the second name stands behind the first
abbrev pub is_behind : Name → Name → Bool
is_behind n m = is_lt (name_cmp n m)

-- behind one more line; none where it cannot stand there
abbrev pub behind : Next → Progress → Text → Option Progress
behind Title p line = elim (same_text line (codes "asp report 2")) [
  | true ↦ goes_on Verdict (record p { polls = true }) true
  | false ↦ goes_on Verdict p (same_text line (codes "asp report 1"))
]
behind Verdict p line = goes_on Main p (has_text line verdict_lines)
behind Main p line = with_activity (same_name main_name) p (activity_in (parts 32 line))
behind (Senders n) p line = with_senders n p (senders_of p.polls (parts 32 line))
behind (Later n) p line = elim (is_output line) [
  | true ↦ Some p
  | false ↦ with_activity (is_behind n) p (activity_in (parts 32 line))
]

-- what a text says
pub data Reading : Type 0 where
  Reads : (lists : ListsShape) (counts : CountsShape) → Reading
  -- by its number, from 1
  BadLine : (line : ℕ) → Reading

-- at the end of a text, with what stands behind its last line feed
abbrev pub ended : Next → Progress → ℕ → Text → Reading
ended (Later n) p number [] = Reads p.lists p.counts
ended next p number t = BadLine number

-- from the line with this number on
abbrev pub read_on : Progress → ℕ → List Text → Reading
read_on p number [] = BadLine number
read_on p number (t ∷ []) = ended p.next p number t
read_on p number (t ∷ u ∷ ts) = elim (behind p.next p t) [
  | None ↦ BadLine number
  | Some q ↦ read_on q (suc number) (u ∷ ts)
]

-- what the bytes of a report say
abbrev pub read_report : Text → Reading
read_report bytes = read_on (record { next = Title; lists = []; counts = []; polls = false }) 1 (parts 10 bytes)
