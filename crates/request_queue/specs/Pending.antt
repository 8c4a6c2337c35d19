-- Pending requests with their numbers in order of arrival.
use Rattle.std.specs.Prelude.{◌≡◌, ℕ, suc, ◌+◌, true, false, List, [], ◌∷◌, ◌++◌, Option, Some, None, length, map}
use Rattle.std.specs.Ordering.{nat_cmp}
use Rattle.std.specs.Map.{lookup, remove_entry}
use Rattle.std.specs.BTreeMap.{is_at}
use Rattle.request_queue.specs.declared.request.Request.{Request}
use Rattle.asp_model.specs.Names.{Text}
use Rattle.asp_model.specs.Term.{has_text}
use Rattle.asp_model.specs.Parcel.{has_place}
use Rattle.asp_model.specs.Configuration.{RequestShape, label_of}
use Rattle.asp_model.specs.Intent.{Numbered, oldest_match}
use Rattle.request_queue.specs.Requests.{request_shape}

-- what a queue shows: the pending requests with their numbers, oldest first, and how many have arrived
pub record QueueView : Type 0 where
  pub pending : List (ℕ × Request)
  pub arrived : ℕ

-- the request of a number
abbrev pub request_at : ℕ → List (ℕ × Request) → Option Request
request_at n = lookup (is_at (nat_cmp n))

-- all but the request of a number
abbrev pub but : ℕ → List (ℕ × Request) → List (ℕ × Request)
but n = remove_entry (is_at (nat_cmp n))

-- the pending requests of a queue, as the definitions have them
abbrev pub waiting : QueueView → List Numbered
waiting q = map (λ e. (e.0, request_shape e.1)) q.pending

-- the oldest request that has one of the labels
abbrev pub oldest : List Text → List Numbered → Option Numbered
oldest labels [] = None
oldest labels (x ∷ xs) = elim (has_text (label_of x.1) labels) [ true ↦ Some x | false ↦ oldest labels xs ]

-- the received requests that were not served, with their numbers from k on
abbrev pub pending_of : List ℕ → ℕ → List RequestShape → List Numbered
pending_of served k [] = []
pending_of served k (r ∷ rs) = elim (has_place k served) [ true ↦ pending_of served (suc k) rs | false ↦ (k, r) ∷ pending_of served (suc k) rs ]

-- the definitions' oldest match is the oldest of the pending requests with one of the labels
abbrev pub MatchesArePending : Type 0
MatchesArePending = (labels : List Text) (served : List ℕ) (k : ℕ) (requests : List RequestShape)
    → oldest_match labels served k requests ≡ oldest labels (pending_of served k requests)

-- one more request is the last of the pending ones
abbrev pub ArrivalsWait : Type 0
ArrivalsWait = (served : List ℕ) (k : ℕ) (requests : List RequestShape) (r : RequestShape) → has_place (k + length requests) served ≡ false
    → pending_of served k (requests ++ r ∷ []) ≡ pending_of served k requests ++ (k + length requests, r) ∷ []

-- one more served request is no longer pending
abbrev pub ServedLeave : Type 0
ServedLeave = (served : List ℕ) (n k : ℕ) (requests : List RequestShape)
    → pending_of (n ∷ served) k requests ≡ remove_entry (is_at (nat_cmp n)) (pending_of served k requests)
