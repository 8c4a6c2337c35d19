-- The run of a history: what its entries make of where it begins, and of a budget.
use Rattle.std.specs.Prelude.{ℕ, zero, suc, ◌+◌, ◌-◌, ◌==◌, ◌&&◌, nat_lt, nat_le, min, Bool, true, false, List, [], ◌∷◌, ◌++◌, Option, Some, None, is_some, is_none, map, filter}
use Rattle.std.specs.FinMap.{find}
use Rattle.asp_model.specs.Names.{Name, name_cmp, main_name, same_name}
use Rattle.asp_model.specs.Term.{Tree}
use Rattle.asp_model.specs.Configuration.{Configuration, start}
use Rattle.asp_model.specs.Step.{name_at, step}
use Rattle.asp_model.specs.Status.{is_running, status_of}
use Rattle.asp_model.specs.History.{DeliveryShape, Edge, Need, EntryShape, Lent, Committed, Delivered, FirstShape, HistoryShape}
use Rattle.asp_model.specs.declared.limits.TheConstants.{MOST_GRANTED}
use Rattle.def_journals.specs.Deliveries.{edge_delivered, need_delivered}
use Rattle.def_journals.specs.Communications.{communicates_next}

-- what the entries of a history have made of its beginning
pub record RunShape : Type 0 where
  pub configuration : Configuration
  -- the names of the activities in the order of creation: the k-th is that of number k
  pub names : List Name
  -- the budget that is left
  pub left : ℕ
  -- the numbers of those that are out, each with its grant
  pub out : List (ℕ × ℕ)

-- the start of a program, where main alone is
abbrev pub start_of : Tree → FirstShape
start_of program = record { names = main_name ∷ []; configuration = start program }

-- where a history begins
abbrev pub first_in : HistoryShape → FirstShape
first_in h = elim h.first [ None ↦ start_of h.program | Some x ↦ x ]

-- all are in, and the whole budget is left
abbrev pub run_from : FirstShape → ℕ → RunShape
run_from x budget = record { configuration = x.configuration; names = x.names; left = budget; out = [] }

-- the run of a history before its entries
abbrev pub first_run : HistoryShape → RunShape
first_run h = run_from (first_in h) h.budget

-- the start of a program, with main in, and the whole budget
abbrev pub begun : Tree → ℕ → RunShape
begun program budget = run_from (start_of program) budget

-- the grant of a number that is out
abbrev pub grant_of : ℕ → List (ℕ × ℕ) → Option ℕ
grant_of k [] = None
grant_of k (x ∷ xs) = elim (k == x.0) [ true ↦ Some x.1 | false ↦ grant_of k xs ]

-- those that are out beside this number
abbrev pub out_but : ℕ → List (ℕ × ℕ) → List (ℕ × ℕ)
out_but k [] = []
out_but k (x ∷ xs) = elim (k == x.0) [ true ↦ out_but k xs | false ↦ x ∷ out_but k xs ]

-- the number of a name
abbrev pub number_of : Name → List Name → Option ℕ
number_of n [] = None
number_of n (m ∷ ms) = elim (same_name n m) [
  | true ↦ Some 0
  | false ↦ elim (number_of n ms) [ None ↦ None | Some k ↦ Some (suc k) ]
]

-- an activity is there, and not out
abbrev pub is_in : RunShape → Name → Bool
is_in s n = elim (number_of n s.names) [ None ↦ false | Some k ↦ is_none (grant_of k s.out) ]

-- Lent: an activity that is in and running goes out, with what is left of the budget up to the most

-- the activity of this number is in, it can step, and some of the budget is left
abbrev pub may_lend : RunShape → ℕ → Name → Bool
may_lend s k n = is_none (grant_of k s.out) && is_running (status_of s.configuration n) && nat_lt 0 s.left

-- the grant of a lease: what is left of the budget, up to the most
abbrev pub granted : RunShape → ℕ
granted s = min MOST_GRANTED s.left

-- the activity goes out with its grant, which leaves the budget; none where it may not be lent
abbrev pub lent : ℕ → RunShape → Option Name → Option RunShape
lent k s None = None
lent k s (Some n) = elim (may_lend s k n) [
  | true ↦ Some (record s { left = s.left - granted s; out = (k, granted s) ∷ s.out })
  | false ↦ None
]

-- Committed: so many steps of an activity that is out, within its grant, and it comes in

-- steps of an activity without lists, of which only the last may be a communication
abbrev pub reduced : ℕ → Name → Configuration → Option Configuration
reduced zero n c = Some c
reduced (suc zero) n c = step None c n
reduced (suc (suc r)) n c = elim (communicates_next c n) [
  | true ↦ None
  | false ↦ elim (step None c n) [ None ↦ None | Some d ↦ reduced (suc r) n d ]
]

-- who is there after and was not before
abbrev pub newcomers : (c d : Configuration) → List Name
newcomers c d = filter (λ m. is_none (find name_cmp m c.activities)) (map (λ x. x.0) d.activities)

-- back with this configuration, and with the rest of its grant
abbrev pub back : RunShape → ℕ → ℕ → Option Configuration → Option RunShape
back s k rest None = None
back s k rest (Some d) = Some (record {
  configuration = d;
  names = s.names ++ newcomers s.configuration d;
  left = s.left + rest;
  out = out_but k s.out;
})

-- the activity comes in after r steps, with the rest of its grant; none where it was not out, took more than its
-- grant, or cannot take these steps
abbrev pub committed : (k r : ℕ) → RunShape → Option Name → Option ℕ → Option RunShape
committed k r s None grant = None
committed k r s (Some n) None = None
committed k r s (Some n) (Some grant) = elim (nat_le r grant) [
  | true ↦ back s k (grant - r) (reduced r n s.configuration)
  | false ↦ None
]

-- Delivered: to an activity that is in

-- the run with this configuration in place of its own
abbrev pub over : RunShape → Option Configuration → Option RunShape
over s None = None
over s (Some d) = Some (record s { configuration = d })

-- one delivery is made; none where the receiver is out or not there, or there is no such value or place
abbrev pub delivered : DeliveryShape → RunShape → Option RunShape
delivered (Edge f from to) s = elim (is_some (find name_cmp from s.configuration.activities) && is_in s to) [
  | true ↦ over s (edge_delivered s.configuration f to)
  | false ↦ None
]
delivered (Need f to place) s = elim (is_in s to) [
  | true ↦ over s (need_delivered s.configuration f to place)
  | false ↦ None
]

-- Journals

-- one entry; none where its condition does not hold
abbrev pub entered : EntryShape → RunShape → Option RunShape
entered (Lent k) s = lent k s (name_at s.names k)
entered (Committed k r) s = committed k r s (name_at s.names k) (grant_of k s.out)
entered (Delivered x) s = delivered x s

-- one entry after another
abbrev pub all_entered : List EntryShape → RunShape → Option RunShape
all_entered [] s = Some s
all_entered (x ∷ xs) s = elim (entered x s) [ None ↦ None | Some t ↦ all_entered xs t ]

-- the run of a history; none where an entry is not lawful
abbrev pub run_of : HistoryShape → Option RunShape
run_of h = all_entered h.entries (first_run h)
