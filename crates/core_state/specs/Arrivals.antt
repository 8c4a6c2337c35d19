-- A lease that has come back.
use Rattle.std.specs.Prelude.{◌≡◌, ◌-◌, ℕ, true, false, List, Option, Some, None, is_some}
use Rattle.asp_model.specs.Chase.{chase}
use Rattle.asp_model.specs.Configuration.{Activity, requests_of}
use Rattle.asp_model.specs.History.{HistoryShape}
use Rattle.asp_model.specs.Intent.{Effect}
use Rattle.asp_model.specs.Names.{Name}
use Rattle.def_journals.specs.Journals.{RunShape}
use Rattle.law_core.specs.Commits.{HasRun}
use Rattle.code_table.specs.declared.code.Node.{Node}
use Rattle.core_ranks.specs.declared.rank.Rank.{Rank}
use Rattle.core_ranks.specs.Ranks.{RankShape, rank_shape}
use Rattle.step_activity.specs.declared.actor.Actor.{Actor}
use Rattle.core_state.specs.declared.state.CoreState.{CoreState}
use Rattle.core_state.specs.Returning.{IsReturning, IsRunCommitted}
use Rattle.core_state.specs.Commits.{act_of, act_within}

-- the communication at which an activity stands, where one of its grant is left
abbrev pub act_at : RunShape → Name → (grant taken : ℕ) → Activity → Option Effect
act_at s n grant taken end = act_within (grant - taken) (act_of (chase s.configuration.futures) (requests_of s.configuration n) n end)

-- one has come back that took so many contractions: it is in by these alone, or stands at a communication exactly where it may be done
abbrev pub IsArrived : (h : HistoryShape) (code : List Node) → CoreState → RunShape → (k : ℕ) (n : Name) (grant taken : ℕ) → Option Actor → Type 0
IsArrived h code x s k n grant taken None =
    (end : Activity) × HasRun s k grant n taken end × (act_at s n grant taken end ≡ None) × IsRunCommitted h code s k n grant taken end x
IsArrived h code x s k n grant taken (Some a) =
    (e : Effect) × (r : IsReturning h code x s k n grant taken a) × (act_at s n grant taken r.end ≡ Some e)

-- by the communication that it does: where it does none, its rank is told
abbrev pub IsRankAlone : Option Effect → RankShape → Option Rank → Type 0
IsRankAlone act told None = is_some act ≡ true
IsRankAlone act told (Some r) = (is_some act ≡ false) × (rank_shape r ≡ told)
