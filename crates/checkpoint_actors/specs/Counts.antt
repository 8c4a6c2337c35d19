-- How many requests activities have received and served.
use Rattle.std.specs.Prelude.{ℕ, ◌+◌, List, [], ◌∷◌, length, unwrap_or}
use Rattle.std.specs.HashMap.{HashMap, get_by}
use denote.Ref.{Bor}
use Rattle.asp_model.specs.Names.{FutureShape, Name, same_name}
use Rattle.law_frozen.specs.Frozen.{FrozenActivity, FrozenShape, answered}
use Rattle.law_steps.specs.Kept.{one_where}

abbrev pub Counts : Type 0
Counts = Name → ℕ

-- the number at a name, and 0 where there is none
unfoldable pub count_in : {S : Type 0} → HashMap (Bor (List ℕ)) ℕ S → Counts
count_in m n = unwrap_or (get_by (λ k. same_name n k.now) m) 0

abbrev pub no_counts : Counts
no_counts n = 0

abbrev pub with_one : Counts → Name → Counts
with_one counts n m = one_where (same_name n m) + counts m

-- how many of these futures have their home at an activity
abbrev pub counts_of : List (FutureShape × Name) → Counts
counts_of [] n = 0
counts_of (h ∷ hs) n = one_where (same_name h.1 n) + counts_of hs n

-- how many requests an activity has served
abbrev pub answered_count : FrozenShape → FrozenActivity → ℕ
answered_count f x = length (answered f x)
