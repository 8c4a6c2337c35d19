-- What maps and sets of references have.
use Rattle.std.specs.Prelude.{ℕ, cond, Bool, false, ◌||◌, List, [], ◌∷◌, Option, Some, None}
use Rattle.std.specs.Option.{option_map}
use Rattle.std.specs.BTreeMap.{BTreeMap, get_by}
use Rattle.std.specs.BTreeSet.{BTreeSet, contains_by}
use denote.Ref.{Bor}
use Rattle.asp_model.specs.declared.name.FutureName.{FutureName}
use Rattle.asp_model.specs.Names.{Name, FutureShape, name_cmp, future_cmp, same_name, same_future}
use Rattle.asp_model.specs.Shapes.{future_shape}
use Rattle.law_frozen.specs.Frozen.{FrozenActivity}
use Rattle.checkpoint_parts.specs.declared.parts.ActivityText.{ActivityText}
use Rattle.checkpoint_parts.specs.Shapes.{activity_shape}
use Rattle.checkpoint_checks.specs.declared.world.World.{World}

-- Activities by their names

abbrev pub Activities : Type 0
Activities = Name → Option FrozenActivity

unfoldable pub activity_in : BTreeMap (List ℕ) (Bor ActivityText) → Activities
activity_in m n = option_map (λ a. activity_shape a.now) (get_by (name_cmp n) m)

abbrev pub nobody : Activities
nobody n = None

abbrev pub with_activity : Activities → FrozenActivity → Activities
with_activity look x n = cond (same_name n x.name) (Some x) (look n)

abbrev pub with_activities : Activities → List FrozenActivity → Activities
with_activities look [] = look
with_activities look (x ∷ xs) = with_activities (with_activity look x) xs

-- Homes by their futures

abbrev pub Homes : Type 0
Homes = FutureShape → Option Name

unfoldable pub home_in : BTreeMap FutureName (Bor (List ℕ)) → Homes
home_in m g = option_map (λ n. n.now) (get_by (λ k. future_cmp g (future_shape k)) m)

abbrev pub no_homes : Homes
no_homes g = None

abbrev pub with_home : Homes → FutureShape → Name → Homes
with_home look g n k = cond (same_future k g) (Some n) (look k)

abbrev pub with_homes : Homes → List (FutureShape × Name) → Homes
with_homes look [] = look
with_homes look (h ∷ hs) = with_homes (with_home look h.0 h.1) hs

-- Sets of futures

abbrev pub Futures : Type 0
Futures = FutureShape → Bool

unfoldable pub has_in : BTreeSet (Bor FutureName) → Futures
has_in s g = contains_by (λ k. future_cmp g (future_shape k.now)) s

abbrev pub no_futures : Futures
no_futures g = false

abbrev pub with_future : Futures → FutureShape → Futures
with_future set g k = same_future k g || set k

abbrev pub with_futures : Futures → List FutureShape → Futures
with_futures set [] = set
with_futures set (g ∷ gs) = with_futures (with_future set g) gs

-- What is known of a checkpoint

abbrev pub activities_of : World → Activities
activities_of w = activity_in w.names

abbrev pub homes_of : World → Homes
homes_of w = home_in w.homes
