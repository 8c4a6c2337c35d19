-- Leases in a journal: since when an activity is out, and what becomes of it.
use Rattle.std.specs.Prelude.{◌≡◌, ◌≤◌, ◌+◌, ℕ, suc, length, ◌==◌, ◌&&◌, not, Bool, true, List, false, [], ◌∷◌, ◌++◌, Option, Some, None, map}
use Rattle.std.specs.FinMap.{find}
use Rattle.asp_model.specs.Names.{Name, name_cmp}
use Rattle.asp_model.specs.Configuration.{RequestShape, ReceptionShape, From, log_of, requests_of}
use Rattle.asp_model.specs.Step.{name_at}
use Rattle.asp_model.specs.History.{BeginsWith, EntryShape, HistoryShape, Lent, Committed, Delivered, with_entry}
use Rattle.def_journals.specs.Journals.{RunShape, first_in, grant_of, granted, run_of}
use Rattle.law_journals.specs.Numbered.{IsFirst}

-- no entry lends the activity of this number, or brings it back
abbrev pub stays_out : ℕ → List EntryShape → Bool
stays_out k [] = true
stays_out k (Lent j ∷ xs) = not (k == j) && stays_out k xs
stays_out k (Committed j r ∷ xs) = not (k == j) && stays_out k xs
stays_out k (Delivered d ∷ xs) = stays_out k xs

-- how many leases there were
abbrev pub bursts_in : List EntryShape → ℕ
bursts_in [] = 0
bursts_in (Lent j ∷ xs) = suc (bursts_in xs)
bursts_in (Committed j r ∷ xs) = bursts_in xs
bursts_in (Delivered d ∷ xs) = bursts_in xs

-- the activity of a number is out with the burst of that number, and was lent in this run
pub record IsLentAt (h : HistoryShape) (k number : ℕ) (s : RunShape) : Type 0 where
  pub before : List EntryShape
  pub after : List EntryShape
  pub is : h.entries ≡ before ++ Lent k ∷ after
  pub stays : stays_out k after ≡ true
  pub burst : number ≡ suc (bursts_in before)
  pub run : run_of (record h { entries = before }) ≡ Some s

-- the burst with which the activity of a number is out: by how many leases there were before, and the burst so far
abbrev pub burst_from : ℕ → ℕ → Option ℕ → List EntryShape → Option ℕ
burst_from k count burst [] = burst
burst_from k count burst (Lent j ∷ xs) = burst_from k (suc count) (elim (k == j) [ true ↦ Some (suc count) | false ↦ burst ]) xs
burst_from k count burst (Committed j r ∷ xs) = burst_from k count (elim (k == j) [ true ↦ None | false ↦ burst ]) xs
burst_from k count burst (Delivered d ∷ xs) = burst_from k count burst xs

abbrev pub burst_out : ℕ → List EntryShape → Option ℕ
burst_out k = burst_from k 0 None

-- what a log notes of requests that came
abbrev pub receptions_of : List RequestShape → List ReceptionShape
receptions_of = map (λ r. From r.sender)

-- it is as it was, and has received some requests more, which its log notes
pub record IsOutSince (s t : RunShape) (k : ℕ) (n : Name) : Type 0 where
  pub named : name_at t.names k ≡ Some n
  pub there : find name_cmp n t.configuration.activities ≡ find name_cmp n s.configuration.activities
  pub more : List RequestShape
  pub received : requests_of t.configuration n ≡ requests_of s.configuration n ++ more
  pub logged : log_of t.configuration n ≡ log_of s.configuration n ++ receptions_of more
  pub out : grant_of k t.out ≡ Some (granted s)

-- while an activity is out, it stays as it was lent, and only receives
abbrev pub LeasesStay : Type 0
LeasesStay = (h : HistoryShape) (k burst : ℕ) (n : Name) (s t : RunShape) → IsFirst (first_in h)
    → IsLentAt h k burst s → name_at s.names k ≡ Some n → run_of h ≡ Some t → IsOutSince s t k n

-- and is out with that burst, from one run alone
abbrev pub LeasesAreOne : Type 0
LeasesAreOne = (h : HistoryShape) (k number other : ℕ) (s t : RunShape)
    → IsLentAt h k number s → IsLentAt h k other t
    → (burst_out k h.entries ≡ Some number) × (number ≡ other) × (s ≡ t)

-- a lease of a history is one of a later history by which its burst is out still
abbrev pub LeasesGoOn : Type 0
LeasesGoOn = (h g : HistoryShape) (k number : ℕ) (s : RunShape) → BeginsWith g h
    → IsLentAt h k number s → burst_out k g.entries ≡ Some number → IsLentAt g k number s

-- who is lent now is out with the next burst, from this run
abbrev pub LeasesBegin : Type 0
LeasesBegin = (h : HistoryShape) (k : ℕ) (s : RunShape) → run_of h ≡ Some s
    → IsLentAt (with_entry h (Lent k)) k (suc (bursts_in h.entries)) s

-- and stays out by an entry that neither lends its number nor brings it back
abbrev pub LeasesLast : Type 0
LeasesLast = (h : HistoryShape) (x : EntryShape) (k number : ℕ) (s : RunShape)
    → stays_out k (x ∷ []) ≡ true → IsLentAt h k number s → IsLentAt (with_entry h x) k number s

-- how many leases an entry is
abbrev pub lends_by : EntryShape → ℕ
lends_by (Lent k) = 1
lends_by (Committed k r) = 0
lends_by (Delivered d) = 0

-- leases are counted one by one, and there are no more of them than entries
abbrev pub BurstsAreCounted : Type 0
BurstsAreCounted = (entries : List EntryShape)
    → ((x : EntryShape) → bursts_in (entries ++ x ∷ []) ≡ bursts_in entries + lends_by x)
    × (bursts_in entries ≤ length entries)
