-- The ranks of a run's activities by their numbers, and who may be lent.
use Rattle.std.specs.Prelude.{◌≡◌, ◌≢◌, ◌&&◌, ℕ, Bool, false, nat_lt, Option, Some, None, is_none}
use Rattle.asp_model.specs.Names.{Name}
use Rattle.asp_model.specs.Step.{name_at}
use Rattle.def_journals.specs.Journals.{RunShape, grant_of, may_lend}
use Rattle.def_journals.specs.Owed.{need_to}
use Rattle.law_journals.specs.Entered.{with_lease}
use Rattle.core_ranks.specs.Ranks.{RankShape, Rests, goes}
use Rattle.law_core.specs.Ranked.{rank_in}

-- while it is out, an activity has no rank
abbrev pub rank_unless_out : RunShape → Name → Option ℕ → RankShape
rank_unless_out s n None = rank_in s.configuration n
rank_unless_out s n (Some grant) = Rests

abbrev pub rank_named : RunShape → ℕ → Option Name → RankShape
rank_named s k None = Rests
rank_named s k (Some n) = rank_unless_out s n (grant_of k s.out)

-- where the activity of a number stands
abbrev pub rank_of_number : RunShape → ℕ → RankShape
rank_of_number s k = rank_named s k (name_at s.names k)

abbrev pub may_go : RunShape → ℕ → Option Name → Bool
may_go s k None = false
may_go s k (Some n) = may_lend s k n && is_none (need_to s.configuration n)

-- it is in, it can step, nothing is owed to it, and some budget is left
abbrev pub is_ready : RunShape → ℕ → Bool
is_ready s k = may_go s k (name_at s.names k)

-- ready are those that may step, while some budget is left
abbrev pub RanksTellReady : Type 0
RanksTellReady = (s : RunShape) (k : ℕ) → is_ready s k ≡ (goes (rank_of_number s k) && nat_lt 0 s.left)

-- who is lent has no rank then, and all others keep theirs
abbrev pub LendsKeepRanks : Type 0
LendsKeepRanks = (s : RunShape) (k : ℕ) → (rank_of_number (with_lease s k) k ≡ Rests)
    × ((j : ℕ) → j ≢ k → rank_of_number (with_lease s k) j ≡ rank_of_number s j)
