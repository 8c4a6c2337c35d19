-- The pending requests of an activity: those that it received and has not served.
use Rattle.std.specs.Prelude.{◌≡◌, ℕ, suc, ◌+◌, true, false, List, [], ◌∷◌, ◌++◌, Option, Some, None, length, map}
use Rattle.std.specs.Ordering.{nat_cmp}
use Rattle.std.specs.Map.{remove_entry}
use Rattle.std.specs.BTreeMap.{is_at}
use Rattle.asp_model.specs.Names.{Text}
use Rattle.asp_model.specs.Term.{has_text}
use Rattle.asp_model.specs.Parcel.{has_place}
use Rattle.asp_model.specs.Configuration.{RequestShape, label_of}
use Rattle.asp_model.specs.Intent.{Numbered, oldest_match}

-- the received requests that were not served, with their numbers from k on
abbrev pub pending_of : List ℕ → ℕ → List RequestShape → List Numbered
pending_of served k [] = []
pending_of served k (r ∷ rs) = elim (has_place k served) [
  | true ↦ pending_of served (suc k) rs
  | false ↦ (k, r) ∷ pending_of served (suc k) rs
]

-- the requests without their numbers
abbrev pub unnumbered : List Numbered → List RequestShape
unnumbered = map (λ x. x.1)

-- the received requests that were not served, oldest first
abbrev pub waiting : List ℕ → List RequestShape → List RequestShape
waiting served rs = unnumbered (pending_of served 0 rs)

-- the oldest request that has one of the labels
abbrev pub oldest : List Text → List Numbered → Option Numbered
oldest labels [] = None
oldest labels (x ∷ xs) = elim (has_text (label_of x.1) labels) [ true ↦ Some x | false ↦ oldest labels xs ]

-- the oldest match is the oldest of the pending requests with one of the labels
abbrev pub MatchesArePending : Type 0
MatchesArePending = (labels : List Text) (served : List ℕ) (k : ℕ) (requests : List RequestShape)
    → oldest_match labels served k requests ≡ oldest labels (pending_of served k requests)

-- one more request is the last of the pending ones
abbrev pub ArrivalsWait : Type 0
ArrivalsWait = (served : List ℕ) (k : ℕ) (requests : List RequestShape) (r : RequestShape)
    → has_place (k + length requests) served ≡ false
    → pending_of served k (requests ++ r ∷ []) ≡ pending_of served k requests ++ (k + length requests, r) ∷ []

-- one more served request is no longer pending
abbrev pub ServedLeave : Type 0
ServedLeave = (served : List ℕ) (n k : ℕ) (requests : List RequestShape)
    → pending_of (n ∷ served) k requests ≡ remove_entry (is_at (nat_cmp n)) (pending_of served k requests)

-- the same request is found on the other side, under its number there, and the same ones are left
pub record ServesSame (labels : List Text) (s t : List ℕ) (rs qs : List RequestShape) (k : ℕ) (r : RequestShape)
    : Type 0 where
  pub number : ℕ
  pub found : oldest_match labels t 0 qs ≡ Some (number, r)
  pub left : waiting (k ∷ s) rs ≡ waiting (number ∷ t) qs

-- so where the same requests are pending, whatever was served between them
abbrev pub ServesAreSame : Type 0
ServesAreSame = (labels : List Text) (s t : List ℕ) (rs qs : List RequestShape) (k : ℕ) (r : RequestShape)
    → waiting s rs ≡ waiting t qs → oldest_match labels s 0 rs ≡ Some (k, r) → ServesSame labels s t rs qs k r
