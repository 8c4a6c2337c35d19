-- What is owed next, by numbers of activities and places of edges.
use Rattle.std.specs.Prelude.{◌≡◌, ◌<◌, ◌&&◌, ℕ, Bool, true, false, List, Option, Some, None, slice_get}
use Rattle.asp_model.specs.Names.{Name, FutureShape}
use Rattle.asp_model.specs.Step.{name_at}
use Rattle.asp_model.specs.History.{ChoiceShape, Edge, Need}
use Rattle.def_journals.specs.Edges.{EdgeShape, HoldersShape, owed_at}
use Rattle.def_journals.specs.Journals.{RunShape, grant_of, is_in}
use Rattle.def_journals.specs.Owed.{first_edge, need_to, next_owed}
use Rattle.law_journals.specs.Numbered.{AreNumbered}
use Rattle.core_ranks.specs.Ranks.{has_need}
use Rattle.law_core.specs.Runs.{rank_of_number}

-- a need of this activity, which is in
pub record IsNeed (s : RunShape) (k : ℕ) (n : Name) (x : FutureShape × ℕ) : Type 0 where
  pub named : name_at s.names k ≡ Some n
  pub free : grant_of k s.out ≡ None
  pub need : need_to s.configuration n ≡ Some x

-- the need of the least number that has one is owed next
abbrev pub NeedsAreFirst : Type 0
NeedsAreFirst = (s : RunShape) (h : HoldersShape) (answers : List ChoiceShape) (k : ℕ) (n : Name)
    (x : FutureShape × ℕ) → AreNumbered s → IsNeed s k n x
    → ((j : ℕ) → j < k → has_need (rank_of_number s j) ≡ false)
    → next_owed s h answers ≡ Some (Need x.0 n x.1)

-- and without needs the first edge
abbrev pub EdgesAreNext : Type 0
EdgesAreNext = (s : RunShape) (h : HoldersShape) (answers : List ChoiceShape) → AreNumbered s
    → ((k : ℕ) → has_need (rank_of_number s k) ≡ false)
    → next_owed s h answers ≡ first_edge s h h.edges answers

abbrev pub is_in_to : RunShape → Option EdgeShape → Bool
is_in_to s None = false
is_in_to s (Some x) = is_in s x.to

-- the edge at this place is owed to one that is in
abbrev pub is_due : RunShape → HoldersShape → List ChoiceShape → ℕ → Bool
is_due s h answers place =
    owed_at h (slice_get h.edges place) (slice_get answers place) && is_in_to s (slice_get h.edges place)

-- the first edge is that at the least such place
pub record FirstEdges (s : RunShape) (h : HoldersShape) (answers : List ChoiceShape) : Type 0 where
  pub found : (place : ℕ) (x : EdgeShape) → slice_get h.edges place ≡ Some x
      → is_due s h answers place ≡ true → ((i : ℕ) → i < place → is_due s h answers i ≡ false)
      → first_edge s h h.edges answers ≡ Some (Edge x.future x.from x.to)
  pub none : ((place : ℕ) → is_due s h answers place ≡ false) → first_edge s h h.edges answers ≡ None

abbrev pub EdgesAreFirst : Type 0
EdgesAreFirst = (s : RunShape) (h : HoldersShape) (answers : List ChoiceShape) → FirstEdges s h answers
