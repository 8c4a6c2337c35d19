-- The verdict that a core tells, and how a run ends in which nobody goes on.
use Rattle.std.specs.Prelude.{◌≡◌, ◌⊎◌, ℕ, Bool, true, false, List, [], None, Option, is_some}
use Rattle.std.specs.Option.{option_map}
use Rattle.asp_model.specs.declared.outcome.Verdict.{Verdict}
use Rattle.asp_model.specs.History.{ChoiceShape}
use Rattle.asp_model.specs.Shapes.{verdict_shape}
use Rattle.asp_model.specs.Status.{Blocked, Budget, End, VerdictShape}
use Rattle.def_journals.specs.Edges.{HoldersShape}
use Rattle.def_journals.specs.Journals.{RunShape}
use Rattle.def_journals.specs.Owed.{first_edge, is_any, verdict_told}
use Rattle.core_ranks.specs.declared.ranks.Ranks.{Ranks}
use Rattle.core_ranks.specs.Numbers.{IsFirst, has_number}
use Rattle.core_ranks.specs.Ranks.{IsAwaitTold, has_need}
use Rattle.law_core.specs.Runs.{is_ready, rank_of_number}

-- somebody may step; or nobody may, and somebody awaits; or nobody does either
abbrev pub IsVerdictOf : Ranks → VerdictShape → Type 0
IsVerdictOf r Budget = (k : ℕ) × (has_number k r.going.keys ≡ true)
IsVerdictOf r Blocked = IsFirst r.going.keys None × IsAwaitTold r true
IsVerdictOf r End = IsFirst r.going.keys None × IsAwaitTold r false

-- nobody is out, nobody needs a value, and nobody may be lent
pub record IsStill (s : RunShape) : Type 0 where
  pub back : s.out ≡ []
  pub needy : (k : ℕ) → has_need (rank_of_number s k) ≡ false
  pub ready : (k : ℕ) → is_ready s k ≡ false

-- or somebody is, does, or may
abbrev pub GoesOn : RunShape → Bool → Type 0
GoesOn s true = (is_any s.out ≡ true) ⊎ (((k : ℕ) × (has_need (rank_of_number s k) ≡ true)) ⊎ ((k : ℕ) × (is_ready s k ≡ true)))
GoesOn s false = IsStill s

-- it is the verdict by all holders, where this says whether an edge is owed to one that is in
abbrev pub IsToldVerdict : RunShape → Bool → Option Verdict → Type 0
IsToldVerdict s due verdict = (h : HoldersShape) (answers : List ChoiceShape)
    → is_some (first_edge s h h.edges answers) ≡ due → verdict_told s h answers ≡ option_map verdict_shape verdict
