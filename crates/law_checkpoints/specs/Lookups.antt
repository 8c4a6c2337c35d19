-- What is looked up in a checkpoint.
use Rattle.std.specs.Prelude.{◌≡◌, ℕ, ◌+◌, true, false, List, [], ◌∷◌, Option, Some, None, is_some}
use Rattle.std.specs.FinMap.{find}
use Rattle.asp_model.specs.Names.{Name, FutureShape, future_cmp, same_name}
use Rattle.asp_model.specs.Configuration.{RequestShape}
use Rattle.law_steps.specs.Kept.{answers_of, mark, one_where}
use Rattle.law_frozen.specs.Frozen.{FrozenActivity, FrozenShape}

-- Activities

-- the first that has this name
abbrev pub activity_of : Name → List FrozenActivity → Option FrozenActivity
activity_of n [] = None
activity_of n (x ∷ xs) = elim (same_name n x.name) [ true ↦ Some x | false ↦ activity_of n xs ]

-- one of these has the name
abbrev pub IsNamed : List FrozenActivity → Name → Type 0
IsNamed xs n = is_some (activity_of n xs) ≡ true

-- a number of an activity, and 0 where there is none
abbrev pub number_in : (FrozenActivity → ℕ) → Option FrozenActivity → ℕ
number_in g None = 0
number_in g (Some x) = g x

-- how many activities one has created, and how many requests it has sent
abbrev pub creations_in : List FrozenActivity → Name → ℕ
creations_in xs n = number_in (λ x. x.activity.creations) (activity_of n xs)

abbrev pub sends_in : List FrozenActivity → Name → ℕ
sends_in xs n = number_in (λ x. x.activity.sends) (activity_of n xs)

-- Futures

-- this activity received the request of the future
abbrev pub HasHome : FrozenShape → FutureShape → Name → Type 0
HasHome f g n = find future_cmp g f.homes ≡ Some n

-- an activity received it
abbrev pub IsHoused : FrozenShape → FutureShape → Type 0
IsHoused f g = is_some (find future_cmp g f.homes) ≡ true

-- how many of these requests have the future
abbrev pub times_pending : FutureShape → List RequestShape → ℕ
times_pending g [] = 0
times_pending g (r ∷ rs) = mark g r.future + times_pending g rs

-- how often it stands with an activity: in pending requests, and to be answered
abbrev pub times_at : FutureShape → FrozenActivity → ℕ
times_at g x = times_pending g x.queue + answers_of g (Some x.activity)

-- how often it stands with the activity of this name, or is filled
abbrev pub times_in : FrozenShape → FutureShape → Name → ℕ
times_in f g n = number_in (times_at g) (activity_of n f.activities) + one_where (is_some (find future_cmp g f.filled))
