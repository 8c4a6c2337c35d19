-- The places of edges by their futures and first activities.
use Rattle.std.specs.Prelude.{◌≡◌, ℕ, ◌≤◌, ◌||◌, Bool, true, false, List, Option, Some, None, slice_get}
use Rattle.std.specs.List.{list_any}
use Rattle.std.specs.BTreeMap.{is_at}
use Rattle.std.specs.BTreeSet.{contains}
use Rattle.std.specs.declared.cmp.Ordering.{Ordering}
use Rattle.asp_model.specs.History.{ChoiceShape, Forward, FromHome, Leave}
use Rattle.future_update.specs.declared.numbered.Edge.{Edge}
use Rattle.future_update.specs.declared.numbered.Future.{Future}
use Rattle.future_update.specs.declared.numbered.Passing.{Passing}
use Rattle.future_update.specs.contracts.numbered.PassingOrd.TheImpl as order
use Rattle.core_sets.specs.declared.marks.Marks.{Marks}
use Rattle.future_update.specs.declared.passings.Passings.{Passings}
use Rattle.future_update.specs.declared.records.Records.{Records}
use Rattle.core_sets.specs.Marks.{MarkedIf, SameMarks, is_marked}
use Rattle.future_update.specs.Numbered.{edge_at}
use Rattle.future_update.specs.Records.{owes}

abbrev pub passing_cmp : Passing → Passing → Ordering
passing_cmp = order.ghosts.cmp

abbrev pub passing_of : Edge → ℕ → Passing
passing_of e p = record { by = e.future.by; index = e.future.index; from = e.from; place = p }

-- the value of an edge with this answer may be sent without a need
abbrev pub may_send : Option ChoiceShape → Bool
may_send None = false
may_send (Some FromHome) = true
may_send (Some Forward) = true
may_send (Some Leave) = false

abbrev pub is_last : Option Passing → Passing → Bool
is_last None k = false
is_last (Some x) k = is_at (passing_cmp k) x

abbrev pub is_kept : Passings → Passing → Bool
is_kept s k = is_last s.last k || contains passing_cmp s.sorted k

-- each edge whose value may be sent has its passing
abbrev pub ArePassings : Passings → List Edge → List ChoiceShape → Type 0
ArePassings s edges answers = (p : ℕ) → may_send (slice_get answers p) ≡ true → is_kept s (passing_of (edge_at edges p) p) ≡ true

-- the last place was marked, if its edge is owed
abbrev pub MarkedLast : Records → Option Passing → (old new : Marks) → Type 0
MarkedLast records None old new = SameMarks old new
MarkedLast records (Some x) old new = MarkedIf (owes records x.place) x.place old new

-- what is marked is owed
abbrev pub IsSound : Records → Marks → Type 0
IsSound records owed = (p : ℕ) → is_marked owed p ≡ true → owes records p ≡ true

-- what is owed and not marked is among these passings
abbrev pub AreAhead : Records → Marks → List Passing → Type 0
AreAhead records owed ahead = (p : ℕ) → owes records p ≡ true → is_marked owed p ≡ false → list_any (is_at (passing_cmp (passing_of (edge_at records.edges.keys p) p))) ahead ≡ true

-- what is owed and not marked are edges of a future, which begin at activities between two
pub record IsBetween (f : Future) (first last : ℕ) (e : Edge) : Type 0 where
  pub future : e.future ≡ f
  pub least : first ≤ e.from
  pub most : e.from ≤ last

abbrev pub IsLeft : Records → Marks → Future → (first last : ℕ) → Type 0
IsLeft records owed f first last = (p : ℕ) → owes records p ≡ true → is_marked owed p ≡ false → IsBetween f first last (edge_at records.edges.keys p)
