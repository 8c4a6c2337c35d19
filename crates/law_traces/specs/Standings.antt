-- Where a run stands, and journals whose runs have ended.
use Rattle.std.specs.Prelude.{◌≡◌, ℕ, min, true, false, List, [], ◌∷◌, Option, Some, None}
use Rattle.asp_model.specs.Status.{VerdictShape, verdict_of}
use Rattle.asp_model.specs.Term.{Tree}
use Rattle.asp_model.specs.History.{ChoiceShape, EntryShape, program_history}
use Rattle.def_journals.specs.Edges.{HoldersShape}
use Rattle.def_journals.specs.Journals.{RunShape, run_of}
use Rattle.def_journals.specs.Owed.{goes_on, verdict_told}

-- how a run stands that a journal left
pub data StandingShape : Type 0 where
  -- some activity is out, and this is the least number
  Out : (number : ℕ) → StandingShape
  -- nobody is out, some activity can step, and some budget is left
  Unfinished : StandingShape
  -- nobody is out, and nobody goes on
  Ended : (verdict : VerdictShape) → StandingShape

-- the least number that is out
abbrev pub least_out : List (ℕ × ℕ) → Option ℕ
least_out [] = None
least_out (x ∷ xs) = elim (least_out xs) [ None ↦ Some x.0 | Some k ↦ Some (min x.0 k) ]

-- by the least number that is out
abbrev pub standing_by : Option ℕ → RunShape → StandingShape
standing_by (Some k) s = Out k
standing_by None s = elim (goes_on s) [ true ↦ Unfinished | false ↦ Ended (verdict_of s.configuration) ]

-- whatever edges are owed
abbrev pub standing_of : RunShape → StandingShape
standing_of s = standing_by (least_out s.out) s

-- a journal of a program and a budget is lawful, and its run has ended
pub record IsEndedJournal (program : Tree) (budget : ℕ) (entries : List EntryShape) : Type 0 where
  pub run : RunShape
  pub lawful : run_of (program_history program budget entries) ≡ Some run
  pub ended : standing_of run ≡ Ended (verdict_of run.configuration)

-- where a core tells a verdict, its run has ended
abbrev pub VerdictsAreEnds : Type 0
VerdictsAreEnds = (s : RunShape) (h : HoldersShape) (answers : List ChoiceShape) (v : VerdictShape)
    → verdict_told s h answers ≡ Some v → standing_of s ≡ Ended v
