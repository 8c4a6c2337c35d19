-- What every reached configuration keeps of names, requests and futures.
use Rattle.std.specs.Prelude.{◌≡◌, ◌≢◌, ◌⊎◌, ℕ, suc, ◌+◌, ◌<◌, ◌≤◌, Bool, true, false, T, List, [], ◌∷◌, Option, Some, None, is_some, length, map, slice_get}
use Rattle.std.specs.FinMap.{find, is_sorted}
use Rattle.asp_model.specs.Names.{Name, FutureShape, name_cmp, future_cmp, main_name, created_name, same_future}
use Rattle.asp_model.specs.Term.{Tree}
use Rattle.asp_model.specs.Parcel.{has_place}
use Rattle.asp_model.specs.Configuration.{RequestShape, ServiceShape, ReceptionShape, From, Poll, Activity, Configuration, requests_of, log_of}
use Rattle.law_steps.specs.Reached.{IsReached, IsAt, IsThere, IsFilled}

-- names ascend
pub record IsOrdered (c : Configuration) : Type 0 where
  pub activities : T (is_sorted name_cmp c.activities)
  pub received : T (is_sorted name_cmp c.received)
  pub logs : T (is_sorted name_cmp c.logs)
  pub futures : T (is_sorted future_cmp c.futures)

abbrev pub EntriesAscend : Type 0
EntriesAscend = (program : Tree) (c : Configuration) → IsReached program c → IsOrdered c

-- Names

abbrev pub number_of : (Activity → ℕ) → Option Activity → ℕ
number_of f None = 0
number_of f (Some a) = f a

-- how many activities one has created, and how many requests it has sent; 0 where it is not there
abbrev pub creations_of : Configuration → Name → ℕ
creations_of c n = number_of (λ a. a.creations) (find name_cmp n c.activities)

abbrev pub sends_of : Configuration → Name → ℕ
sends_of c n = number_of (λ a. a.sends) (find name_cmp n c.activities)

-- it is main, or one that another has created
abbrev pub IsCreated : Configuration → Name → Type 0
IsCreated c n = (n ≡ main_name)
    ⊎ ((by : Name) × (k : ℕ) × (n ≡ created_name by (suc k)) × (suc k ≤ creations_of c by))

-- exactly main and the created ones are there
abbrev pub NamesAreCreations : Type 0
NamesAreCreations = (program : Tree) (c : Configuration) (n : Name) → IsReached program c
    → (IsThere c n → IsCreated c n) × (IsCreated c n → IsThere c n)

-- Requests

-- the k-th request that an activity received, from 0
abbrev pub Stands : Configuration → Name → ℕ → RequestShape → Type 0
Stands c m k r = slice_get (requests_of c m) k ≡ Some r

-- a request is received by one that is there, and its future is one that its sender has begun
pub record IsRightRequest (c : Configuration) (m : Name) (r : RequestShape) : Type 0 where
  pub received : IsThere c m
  pub by : r.sender ≡ r.future.by
  pub first : 1 ≤ r.future.index
  pub last : r.future.index ≤ sends_of c r.sender

abbrev pub RequestsAreSends : Type 0
RequestsAreSends = (program : Tree) (c : Configuration) (m : Name) (k : ℕ) (r : RequestShape)
    → IsReached program c → Stands c m k r → IsRightRequest c m r

-- the senders in a log
abbrev pub senders_among : List ReceptionShape → List Name
senders_among [] = []
senders_among (From n ∷ xs) = n ∷ senders_among xs
senders_among (Poll ∷ xs) = senders_among xs

-- a log has the senders of these requests, in order
abbrev pub Tells : List ReceptionShape → List RequestShape → Type 0
Tells log rs = senders_among log ≡ map (λ r. r.sender) rs

-- from the start of a program, a log has the senders of all requests that came
abbrev pub LogsTell : Type 0
LogsTell = (program : Tree) (c : Configuration) (m : Name) → IsReached program c
    → Tells (log_of c m) (requests_of c m)

-- no number stands twice
abbrev pub AreDistinct : List ℕ → Type 0
AreDistinct [] = Unit {0}
AreDistinct (k ∷ ks) = (has_place k ks ≡ false) × AreDistinct ks

-- an activity serves requests that it received, each once
abbrev pub ServesOnce : Configuration → Name → Activity → Type 0
ServesOnce c m a = AreDistinct a.served
    × ((k : ℕ) → has_place k a.served ≡ true → k < length (requests_of c m))

abbrev pub ServedOnce : Type 0
ServedOnce = (program : Tree) (c : Configuration) (m : Name) (a : Activity)
    → IsReached program c → IsAt c m a → ServesOnce c m a

-- Futures

abbrev pub one_where : Bool → ℕ
one_where true = 1
one_where false = 0

abbrev pub one_unless : Bool → ℕ
one_unless true = 0
one_unless false = 1

-- 1 for the same future
abbrev pub mark : FutureShape → FutureShape → ℕ
mark f g = one_where (same_future f g)

abbrev pub tally : (FutureShape → ℕ) → Option FutureShape → ℕ
tally w None = 0
tally w (Some f) = w f

abbrev pub tally_all : (FutureShape → ℕ) → List ServiceShape → ℕ
tally_all w [] = 0
tally_all w (v ∷ vs) = tally w v.future + tally_all w vs

-- how often an activity has to answer a future: by its running service, and by the suspended ones
abbrev pub answers_of : FutureShape → Option Activity → ℕ
answers_of f None = 0
answers_of f (Some a) = tally (mark f) a.present + tally_all (mark f) a.services

abbrev pub is_served : ℕ → Option Activity → Bool
is_served k None = false
is_served k (Some a) = has_place k a.served

-- as numbers: that a request is pending, how often one has to answer a future, that it is filled
abbrev pub pending_at : Configuration → Name → ℕ → ℕ
pending_at c m k = one_unless (is_served k (find name_cmp m c.activities))

abbrev pub answers_at : Configuration → Name → FutureShape → ℕ
answers_at c m f = answers_of f (find name_cmp m c.activities)

abbrev pub filled_at : Configuration → FutureShape → ℕ
filled_at c f = one_where (is_some (find future_cmp f c.futures))

-- a future stands once: its request is pending, or one activity has to answer it, or it is filled
pub record StandsOnce (c : Configuration) (f : FutureShape) : Type 0 where
  pub target : Name
  pub number : ℕ
  pub request : RequestShape
  pub there : Stands c target number request
  pub is : request.future ≡ f
  -- no other request has this future
  pub alone : (m : Name) (k : ℕ) (r : RequestShape)
      → Stands c m k r → r.future ≡ f → (m ≡ target) × (k ≡ number)
  pub once : pending_at c target number + answers_at c target f + filled_at c f ≡ 1
  pub nowhere : (m : Name) → m ≢ target → answers_at c m f ≡ 0

-- each future that was begun stands once
abbrev pub FuturesStandOnce : Type 0
FuturesStandOnce = (program : Tree) (c : Configuration) (n : Name) (i : ℕ)
    → IsReached program c → suc i ≤ sends_of c n
    → StandsOnce c (record { by = n; index = suc i })

-- it is one of those that its sender has begun
abbrev pub IsBegun : Configuration → FutureShape → Type 0
IsBegun c f = (1 ≤ f.index) × (f.index ≤ sends_of c f.by)

-- a future that is filled, or that an activity has to answer, was begun
abbrev pub FuturesWereBegun : Type 0
FuturesWereBegun = (program : Tree) (c : Configuration) (f : FutureShape) → IsReached program c
    → IsFilled c f ⊎ ((m : Name) × (1 ≤ answers_at c m f)) → IsBegun c f
