-- Which value is needed next.
use Rattle.std.specs.Prelude.{◌≡◌, ◌<◌, ℕ, false, Option, Some, None}
use Rattle.asp_model.specs.Names.{Name, FutureShape}
use Rattle.asp_model.specs.Shapes.{future_shape}
use Rattle.def_journals.specs.Journals.{RunShape}
use Rattle.core_ranks.specs.Ranks.{has_need}
use Rattle.step_activity.specs.Stances as stance
use Rattle.step_activity.specs.Stances.{StanceShape}
use Rattle.law_core.specs.Runs.{rank_of_number}
use Rattle.law_core.specs.Owed.{IsNeed}
use Rattle.core_state.specs.declared.next.Needed.{Needed}

-- whose value, and where
abbrev pub need_shape : Needed → FutureShape × ℕ
need_shape x = (future_shape x.future, x.loc)

-- what is owed to one that stands so
abbrev pub need_told : StanceShape → Option (FutureShape × ℕ)
need_told (stance.Needs f place) = Some (f, place)
need_told (stance.Goes communicates) = None
need_told (stance.Rests status) = None

-- the need of the least number that has one, or there is none
abbrev pub IsNextNeed : RunShape → Option Needed → Type 0
IsNextNeed s None = (k : ℕ) → has_need (rank_of_number s k) ≡ false
IsNextNeed s (Some x) = (n : Name) × IsNeed s x.number n (need_shape x)
    × ((j : ℕ) → j < x.number → has_need (rank_of_number s j) ≡ false)
