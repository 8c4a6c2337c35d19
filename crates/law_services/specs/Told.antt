-- What services of a replay could take, as data, and where two such data are not the same to a service.
use Rattle.std.specs.Prelude.{◌≡◌, ◌⊎◌, ◌&&◌, ◌↔◌, not, Bool, true, false, T, List, []}
use Rattle.std.specs.Prelude.{Option, Some, None, map, filter}
use Rattle.std.specs.Cmp.Lexicographic.{pointwise}
use Rattle.std.specs.FinMap.{find, is_sorted}
use Rattle.std.specs.List.{Contains, list_all}
use Rattle.std.specs.Ordering.{is_lt}
use Rattle.asp_model.specs.Names.{Name, Text, name_cmp, same_name, same_text}
use Rattle.asp_model.specs.Term.{Tree, has_text}
use Rattle.asp_model.specs.Configuration.{requests_of, log_of}
use Rattle.asp_model.specs.Services.{ArrivalShape, ServiceEntryShape, ServicesShape}
use Rattle.asp_model.specs.Step.{ListsShape}
use Rattle.asp_model.specs.Replay.{CountsShape, replay}
use Rattle.law_services.specs.Services.{arrival_of, StoodAt, has_poll, AreServedAlike, IsServedAlike}

-- the entries by their names
abbrev pub by_name : ServicesShape → List (Name × ServiceEntryShape)
by_name s = map (λ e. (e.name, e)) s

-- strictly, as the names of a run's activities do
abbrev pub NamesAscend : ServicesShape → Type 0
NamesAscend s = T (is_sorted name_cmp (by_name s))

-- who has no entry: nothing came, and no service asked for anything
abbrev pub no_services : Name → ServiceEntryShape
no_services n = record { name = n; arrivals = []; polled = false; sets = [] }

-- the entry, if there is one
abbrev pub entry_or_none : Name → Option ServiceEntryShape → ServiceEntryShape
entry_or_none n None = no_services n
entry_or_none n (Some e) = e

-- the entry of a name
abbrev pub entry_at : ServicesShape → Name → ServiceEntryShape
entry_at s n = entry_or_none n (find name_cmp n (by_name s))

-- the arrivals with a label of the set, in their order
abbrev pub with_labels : List Text → List ArrivalShape → List ArrivalShape
with_labels labels = filter (λ x. has_text x.label labels)

-- one sender, and one label
abbrev pub same_arrival : ArrivalShape → ArrivalShape → Bool
same_arrival x y = same_name x.sender y.sender && same_text x.label y.label

-- a service of these labels finds the same on both sides, in one order
abbrev pub finds_same : List ArrivalShape → List ArrivalShape → List Text → Bool
finds_same xs ys labels = pointwise same_arrival (with_labels labels xs) (with_labels labels ys)

-- neither polled, and each service of the first finds the same in both
abbrev pub same_to_services : ServiceEntryShape → ServiceEntryShape → Bool
same_to_services x y = not x.polled && (not y.polled && list_all (finds_same x.arrivals y.arrivals) x.sets)

-- no service of this activity can tell
abbrev pub is_same_at : ServicesShape → ServicesShape → Name → Bool
is_same_at a b n = same_to_services (entry_at a n) (entry_at b n)

-- no service of any activity can tell
abbrev pub AreSameServices : (a b : ServicesShape) → Type 0
AreSameServices a b = (n : Name) → is_same_at a b n ≡ true

-- the least-named activity of which a service could tell, or that polled
pub record IsFirstDifference (a b : ServicesShape) (n : Name) : Type 0 where
  pub differs : is_same_at a b n ≡ false
  pub least : (m : Name) → is_lt (name_cmp m n) ≡ true → is_same_at a b m ≡ true

-- a text is in both or in neither
abbrev pub HaveSameTexts : List Text → List Text → Type 0
HaveSameTexts xs ys = (t : Text) → has_text t xs ≡ has_text t ys

-- a `serve` with these labels is one at which the activity stood, unless they are none
abbrev pub IsStood : Tree → ListsShape → CountsShape → Name → List Text → Type 0
IsStood program lists counts n labels = (others : List Text)
    × HaveSameTexts labels others × ((others ≡ []) ⊎ StoodAt program lists counts n others)

-- one of the sets has these labels, unless they are none
abbrev pub IsKept : List (List Text) → List Text → Type 0
IsKept sets labels = (labels ≡ []) ⊎ ((others : List Text) × Contains sets others × HaveSameTexts others labels)

-- they are those of the replay: what came, who polled, and the labels of each `serve` at which one stood, in whatever
-- order
pub record AreServicesOf (program : Tree) (lists : ListsShape) (counts : CountsShape) (s : ServicesShape) : Type 0 where
  pub ascending : NamesAscend s
  pub arrivals : (n : Name)
      → (entry_at s n).arrivals ≡ map arrival_of (requests_of (replay program lists counts) n)
  pub polled : (n : Name)
      → (entry_at s n).polled ≡ has_poll (log_of (replay program lists counts) n)
  pub stood : (n : Name) (labels : List Text)
      → Contains (entry_at s n).sets labels → IsStood program lists counts n labels
  pub sets : (n : Name) (labels : List Text)
      → StoodAt program lists counts n labels → IsKept (entry_at s n).sets labels

-- no service can tell between two replays exactly where none can between the data of both
abbrev pub ServicesTell : Type 0
ServicesTell = (program : Tree) (lists : ListsShape) (counts : CountsShape)
    (others : ListsShape) (other_counts : CountsShape) (a b : ServicesShape)
    → AreServicesOf program lists counts a → AreServicesOf program others other_counts b
    → AreSameServices a b ↔ AreServedAlike program lists counts others other_counts

-- so for each activity
abbrev pub ServicesTellAt : Type 0
ServicesTellAt = (program : Tree) (lists : ListsShape) (counts : CountsShape)
    (others : ListsShape) (other_counts : CountsShape) (a b : ServicesShape) (n : Name)
    → AreServicesOf program lists counts a → AreServicesOf program others other_counts b
    → (is_same_at a b n ≡ true) ↔ IsServedAlike program lists counts others other_counts n
