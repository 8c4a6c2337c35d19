-- A step of one activity of a configuration, under given logs or without.
use Rattle.std.specs.Prelude.{ℕ, zero, suc, ◌&&◌, Bool, true, false, List, [], ◌∷◌, ◌++◌, Option, Some, None, length, is_some}
use Rattle.std.specs.declared.cmp.Ordering.{Ordering}
use Rattle.std.specs.FinMap.{find, put}
use Rattle.asp_model.specs.Names.{Name, name_cmp, future_cmp, same_name}
use Rattle.asp_model.specs.Chase.{chase}
use Rattle.asp_model.specs.Configuration.{ReceptionShape, From, Poll, Configuration, or_none, requests_of, log_of}
use Rattle.asp_model.specs.Intent.{Intent, Acts, Rests, Done, Effect, intent}

-- what an activity of a configuration intends; without such an activity nothing
abbrev pub intent_in : Configuration → Name → Intent
intent_in c n = elim (find name_cmp n c.activities) [
  | None ↦ Rests Done
  | Some a ↦ intent (chase c.futures) (requests_of c n) n a
]

-- entries with one more, where there is one
abbrev pub put_some : {K X : Type 0} → (K → K → Ordering) → Option (K × X) → List (K × X) → List (K × X)
put_some R None entries = entries
put_some R (Some e) entries = put R e.0 e.1 entries

-- one item more at the end of what stands at a name
abbrev pub with_last : {X : Type 0} → Option (Name × X) → List (Name × List X) → List (Name × List X)
with_last None boxes = boxes
with_last (Some x) boxes = put name_cmp x.0 (or_none (find name_cmp x.0 boxes) ++ x.1 ∷ []) boxes

-- the configuration with an effect of this activity
abbrev pub with_effect : Name → Effect → Configuration → Configuration
with_effect n e c = record {
  activities = put_some name_cmp e.made (put name_cmp n e.own c.activities);
  received = with_last e.sent c.received;
  logs = with_last e.logged c.logs;
  futures = put_some future_cmp e.filled c.futures;
}

-- for each activity what it received and asked, in order
abbrev pub ListsShape : Type 0
ListsShape = List (Name × List ReceptionShape)

-- the name at a number, from 0
abbrev pub name_at : List Name → ℕ → Option Name
name_at [] k = None
name_at (n ∷ ns) zero = Some n
name_at (n ∷ ns) (suc k) = name_at ns k

-- the entry of a log at a number, from 0
abbrev pub reception_at : List ReceptionShape → ℕ → Option ReceptionShape
reception_at [] k = None
reception_at (x ∷ xs) zero = Some x
reception_at (x ∷ xs) (suc k) = reception_at xs k

-- the same sender, or two polls
abbrev pub same_reception : ReceptionShape → ReceptionShape → Bool
same_reception (From n) (From m) = same_name n m
same_reception Poll Poll = true
same_reception x y = false

-- the entry is there, and is this one
abbrev pub is_reception : ReceptionShape → Option ReceptionShape → Bool
is_reception x None = false
is_reception x (Some y) = same_reception x y

-- the reception is next in the log of the activity; without logs each is
abbrev pub is_next : Option ListsShape → Configuration → Name → ReceptionShape → Bool
is_next None c to x = true
is_next (Some lists) c to x = is_reception x (reception_at (or_none (find name_cmp to lists)) (length (log_of c to)))

-- what is logged is logged at an activity that is there, in its turn
abbrev pub may_log : Option ListsShape → Configuration → Option (Name × ReceptionShape) → Bool
may_log lists c None = true
may_log lists c (Some x) = is_some (find name_cmp x.0 c.activities) && is_next lists c x.0 x.1

-- one reduction of an activity; none where it is not enabled
abbrev pub step : Option ListsShape → Configuration → Name → Option Configuration
step lists c n = elim (intent_in c n) [
  | Rests status ↦ None
  | Acts e ↦ elim (may_log lists c e.logged) [ true ↦ Some (with_effect n e c) | false ↦ None ]
]
