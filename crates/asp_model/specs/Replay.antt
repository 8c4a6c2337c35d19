-- Lists and counts of a run: the logs of its activities and their reductions. And the run of one thread under them.
use Rattle.std.specs.Prelude.{◌≡◌, ◌≢◌, ℕ, zero, suc, ◌+◌, nat_lt, true, false, ◌||◌, List, [], ◌∷◌, Option, Some, None, length, map, max}
use Rattle.std.specs.List.{starts_with}
use Rattle.std.specs.Ordering.{is_lt}
use Rattle.std.specs.FinMap.{find, put}
use Rattle.asp_model.specs.Names.{Name, name_cmp}
use Rattle.asp_model.specs.Term.{Tree}
use Rattle.asp_model.specs.Configuration.{ReceptionShape, Activity, Configuration, or_none, start, log_of}
use Rattle.asp_model.specs.Step.{ListsShape, step, same_reception}

-- for each activity the number of its reductions
abbrev pub CountsShape : Type 0
CountsShape = List (Name × ℕ)

-- for each activity its log
abbrev pub lists_of : Configuration → ListsShape
lists_of c = map (λ x. (x.0, log_of c x.0)) c.activities

-- for each activity the number of its reductions
abbrev pub counts_of : Configuration → CountsShape
counts_of c = map (λ x. (x.0, x.1.reductions)) c.activities

-- the log of an activity in given lists; without an entry it is empty
abbrev pub log_in : ListsShape → Name → List ReceptionShape
log_in lists n = or_none (find name_cmp n lists)

-- a number, and 0 where there is none
abbrev pub zero_or : Option ℕ → ℕ
zero_or None = 0
zero_or (Some k) = k

-- an activity without an entry has the count 0
abbrev pub count_in : CountsShape → Name → ℕ
count_in counts n = zero_or (find name_cmp n counts)

-- the sum of all counts
abbrev pub total : CountsShape → ℕ
total [] = 0
total (x ∷ xs) = x.1 + total xs

-- for each name, one of the two logs begins with the other
abbrev pub AreCompatible : ListsShape → ListsShape → Type 0
AreCompatible lists others = (n : Name) → (
    starts_with same_reception (log_in lists n) (log_in others n)
    || starts_with same_reception (log_in others n) (log_in lists n)
    ) ≡ true

-- the longer of two logs
abbrev pub longer : List ReceptionShape → List ReceptionShape → List ReceptionShape
longer ns ms = elim (nat_lt (length ns) (length ms)) [ true ↦ ms | false ↦ ns ]

-- for each name the longer log
abbrev pub joined_lists : ListsShape → ListsShape → ListsShape
joined_lists lists [] = lists
joined_lists lists (x ∷ xs) = joined_lists (put name_cmp x.0 (longer (log_in lists x.0) x.1) lists) xs

-- for each name the greater count
abbrev pub joined_counts : CountsShape → CountsShape → CountsShape
joined_counts counts [] = counts
joined_counts counts (x ∷ xs) = joined_counts (put name_cmp x.0 (max (count_in counts x.0) x.1) counts) xs

-- a step of the least-named of these activities that is below its count and can step
abbrev pub least_step : Option ListsShape → (Name → ℕ) → Configuration → List (Name × Activity) → Option Configuration
least_step lists count c [] = None
least_step lists count c (x ∷ xs) = elim (nat_lt x.1.reductions (count x.0)) [
  | false ↦ least_step lists count c xs
  | true ↦ elim (step lists c x.0) [ None ↦ least_step lists count c xs | Some d ↦ Some d ]
]

-- at most n such steps, until none qualifies
abbrev pub steps_from : ℕ → Option ListsShape → (Name → ℕ) → Configuration → Configuration
steps_from zero lists count c = c
steps_from (suc n) lists count c = elim (least_step lists count c c.activities) [
  | None ↦ c
  | Some d ↦ steps_from n lists count d
]

-- the run of one thread without lists: at most n steps, each of the least-named activity that can step
abbrev pub plain_run : ℕ → Tree → Configuration
plain_run n program = steps_from n None (λ name. n) (start program)

-- the replay of a program under lists and counts: no step is lazier, since strict operands alone are unpacked
abbrev pub replay : Tree → ListsShape → CountsShape → Configuration
replay program lists counts = steps_from (total counts) (Some lists) (count_in counts) (start program)

-- the activities created are those with entries, each log is used up, and each count is reached
pub record Fits (program : Tree) (lists : ListsShape) (counts : CountsShape) : Type 0 where
  pub used_up : lists_of (replay program lists counts) ≡ lists
  pub reached : counts_of (replay program lists counts) ≡ counts

-- what lists and counts have of an activity
abbrev pub entries_of : ListsShape → CountsShape → Name → Option (List ReceptionShape) × Option ℕ
entries_of lists counts n = (find name_cmp n lists, find name_cmp n counts)

-- the replay leaves something else of this activity than lists and counts say
abbrev pub DivergesAt : Tree → ListsShape → CountsShape → Name → Type 0
DivergesAt program lists counts n =
    let c : Configuration = replay program lists counts in
    entries_of (lists_of c) (counts_of c) n ≢ entries_of lists counts n

-- the least-named activity at which the replay diverges
pub record IsLeastDiverging (program : Tree) (lists : ListsShape) (counts : CountsShape) (n : Name) : Type 0 where
  pub diverges : DivergesAt program lists counts n
  pub least : (m : Name) → DivergesAt program lists counts m → is_lt (name_cmp m n) ≡ false
