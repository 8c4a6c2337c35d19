-- What is frozen of a configuration, and the configuration from which a run goes on.
use Rattle.std.specs.Prelude.{◌≡◌, ℕ, zero, suc, ◌&&◌, not, Bool, List, [], ◌∷◌, ◌++◌, Some, None, length, map, filter}
use Rattle.std.specs.declared.cmp.Ordering.{Ordering}
use Rattle.std.specs.List.{flat_map, list_any}
use Rattle.std.specs.FinMap.{find, put}
use Rattle.asp_model.specs.Names.{Name, FutureShape, name_cmp, future_cmp, same_name, same_future}
use Rattle.asp_model.specs.Chase.{Values}
use Rattle.asp_model.specs.Configuration.{RequestShape, ReceptionShape, Activity, Configuration, log_of}
use Rattle.asp_model.specs.History.{FirstShape}
use Rattle.def_journals.specs.Edges.{homes_in}
use Rattle.law_services.specs.Correct.{bare}
use Rattle.law_journals.specs.Numbered.{IsFirst}
use Rattle.law_frozen.specs.Same.{SamePending, queue_of}

-- an activity without what it served, its log, and its pending requests, oldest first
pub record FrozenActivity : Type 0 where
  pub name : Name
  pub activity : Activity
  pub log : List ReceptionShape
  pub queue : List RequestShape

-- what a checkpoint keeps
pub record FrozenShape : Type 0 where
  -- each future with the activity that received its request, in the order of futures
  pub homes : List (FutureShape × Name)
  pub filled : Values
  -- in the order of creation
  pub activities : List FrozenActivity

-- entries in the order of their keys; of two with one key the first
abbrev pub in_order : {K X : Type 0} → (K → K → Ordering) → List (K × X) → List (K × X)
in_order R [] = []
in_order R (x ∷ xs) = put R x.0 x.1 (in_order R xs)

-- Freezing

abbrev pub freeze : Configuration → Name → Activity → FrozenActivity
freeze c n a = record { name = n; activity = bare a; log = log_of c n; queue = queue_of c n }

abbrev pub frozen_at : Configuration → Name → List FrozenActivity
frozen_at c n = elim (find name_cmp n c.activities) [ None ↦ [] | Some a ↦ freeze c n a ∷ [] ]

-- what is frozen of a configuration whose activities were created in the order of these names
abbrev pub frozen_of : List Name → Configuration → FrozenShape
frozen_of names c = record {
  homes = in_order future_cmp (homes_in c);
  filled = c.futures;
  activities = flat_map (frozen_at c) names;
}

-- Thawing

-- of a request that was served only its future counts, and who sent it
abbrev pub spent : FutureShape → RequestShape
spent f = record { label = []; sender = f.by; future = f; arguments = record { cells = []; roots = [] } }

-- one of these requests has the future
abbrev pub has_future : FutureShape → List RequestShape → Bool
has_future f rs = list_any (λ r. same_future f r.future) rs

-- the futures whose requests an activity has served: those that have it as home, and are not pending
abbrev pub answered : FrozenShape → FrozenActivity → List FutureShape
answered f x = map (λ h. h.0) (filter (λ h. same_name h.1 x.name && not (has_future h.0 x.queue)) f.homes)

-- the first k numbers
abbrev pub numbers_to : ℕ → List ℕ
numbers_to zero = []
numbers_to (suc k) = k ∷ numbers_to k

-- what it received: the answered requests, spent, and then the pending ones
abbrev pub received_by : FrozenShape → FrozenActivity → List RequestShape
received_by f x = map spent (answered f x) ++ x.queue

-- it has served the first of these
abbrev pub thawed_activity : FrozenShape → FrozenActivity → Activity
thawed_activity f x = record x.activity { served = numbers_to (length (answered f x)) }

-- something of each activity, at its name
abbrev pub each_named : {X : Type 0} → (FrozenActivity → X) → List FrozenActivity → List (Name × X)
each_named g xs = in_order name_cmp (map (λ x. (x.name, g x)) xs)

-- the configuration from which a run goes on
abbrev pub thawed : FrozenShape → Configuration
thawed f = record {
  activities = each_named (thawed_activity f) f.activities;
  received = each_named (received_by f) f.activities;
  logs = each_named (λ x. x.log) f.activities;
  futures = f.filled;
}

-- where a run goes on
abbrev pub thawed_first : FrozenShape → FirstShape
thawed_first f = record { names = map (λ x. x.name) f.activities; configuration = thawed f }

-- what is thawed of a frozen configuration differs from it in what was served alone
abbrev pub FrozenIsSame : Type 0
FrozenIsSame = (x : FirstShape) → IsFirst x
    → SamePending x.configuration (thawed (frozen_of x.names x.configuration))

-- and such configurations freeze to the same
abbrev pub SameFreezesSame : Type 0
SameFreezesSame = (names : List Name) (c d : Configuration) → SamePending c d
    → frozen_of names c ≡ frozen_of names d
