-- Tests of the names of activities.
use Rattle.std.specs.Prelude.{ℕ, zero, suc, ◌&&◌, not, nat_le, Bool, true, false, List, [], ◌∷◌, is_some}
use Rattle.asp_model.specs.Names.{Name, main_name, created_name, same_name}
use Rattle.law_frozen.specs.Frozen.{FrozenActivity}
use Rattle.law_checkpoints.specs.Lookups.{number_in}
use Rattle.checkpoint_checks.specs.Maps.{Activities, nobody, with_activity}

abbrev pub sends_at : Activities → Name → ℕ
sends_at look n = number_in (λ x. x.activity.sends) (look n)

abbrev pub creations_at : Activities → Name → ℕ
creations_at look n = number_in (λ x. x.activity.creations) (look n)

abbrev pub is_named : Activities → Name → Bool
is_named look n = is_some (look n)

-- all but the last number, and the last
abbrev pub parted_behind : ℕ → Name → Name × ℕ
parted_behind k [] = ([], k)
parted_behind k (i ∷ n) = let r = parted_behind i n in (k ∷ r.0, r.1)

abbrev pub created_by : Activities → Name × ℕ → Bool
created_by look r = nat_le 1 r.1 && nat_le r.1 (creations_at look r.0)

-- one of these has created it
abbrev pub is_created : Activities → Name → Bool
is_created look [] = false
is_created look (k ∷ n) = created_by look (parted_behind k n)

-- each has a new name, and one that stands before it has created it
abbrev pub are_created : Activities → List FrozenActivity → Bool
are_created look [] = true
are_created look (x ∷ xs) = (is_created look x.name && not (is_named look x.name))
    && are_created (with_activity look x) xs

-- main is first
abbrev pub begin_with_main : List FrozenActivity → Bool
begin_with_main [] = false
begin_with_main (x ∷ xs) = same_name x.name main_name && are_created (with_activity nobody x) xs

-- it holds of each number below k
abbrev pub all_to : (ℕ → Bool) → ℕ → Bool
all_to p zero = true
all_to p (suc k) = all_to p k && p k

-- all that it has created are there
abbrev pub all_named : Activities → FrozenActivity → Bool
all_named look x = all_to (λ k. is_named look (created_name x.name (suc k))) x.activity.creations
