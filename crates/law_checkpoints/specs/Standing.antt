-- The futures that stand in a checkpoint, in the order in which a pass comes to them.
use Rattle.std.specs.Prelude.{◌≡◌, ℕ, ◌+◌, T, List, [], ◌∷◌, ◌++◌, Option, Some, None, map}
use Rattle.std.specs.List.{flat_map}
use Rattle.std.specs.FinMap.{is_sorted}
use Rattle.asp_model.specs.Names.{Name, FutureShape, future_cmp}
use Rattle.law_steps.specs.Kept.{mark}
use Rattle.law_steps.specs.Linked.{Each}
use Rattle.law_frozen.specs.Frozen.{FrozenActivity, FrozenShape}
use Rattle.law_checkpoints.specs.Lookups.{HasHome, times_in}
use Rattle.law_checkpoints.specs.Sound.{StandOnce}

-- a future, if there is one
abbrev pub future_in : Option FutureShape → List FutureShape
future_in None = []
future_in (Some g) = g ∷ []

-- those of an activity: of its pending requests, and those that it has to answer
abbrev pub standing_at : FrozenActivity → List FutureShape
standing_at x = map (λ r. r.future) x.queue
    ++ (future_in x.activity.present ++ flat_map (λ v. future_in v.future) x.activity.services)

-- those of all activities, and then the filled ones
abbrev pub standing_in : FrozenShape → List FutureShape
standing_in f = flat_map standing_at f.activities ++ map (λ v. v.0) f.filled

-- how many of these are this one
abbrev pub times : FutureShape → List FutureShape → ℕ
times g [] = 0
times g (k ∷ ks) = mark g k + times g ks

-- where each that stands with an activity has it as home, one list tells how often a future stands
abbrev pub TimesAreOfList : Type 0
TimesAreOfList = (f : FrozenShape) (g : FutureShape) (n : Name) → StandOnce f.activities
    → T (is_sorted future_cmp f.filled)
    → Each (λ x. Each (λ k. HasHome f k x.name) (standing_at x)) f.activities
    → HasHome f g n → times_in f g n ≡ times g (standing_in f)
