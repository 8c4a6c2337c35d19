-- Along which edges values are delivered: those that a policy chose.
use Rattle.std.specs.Prelude.{◌≡◌, ℕ, true, List, Some, slice_get}
use Rattle.asp_model.specs.History.{ChoiceShape, Leave, DeliveryShape, Edge, Need, EntryShape, Lent, Committed}
use Rattle.asp_model.specs.History.{Delivered}
use Rattle.asp_model.specs.Names.{FutureShape, Name}
use Rattle.def_journals.specs.Edges.{EdgeShape, HoldersShape, has_edge, has_filled, is_chosen}
use Rattle.law_steps.specs.Linked.{Each}
use Rattle.update_policy.specs.declared.strategy.Policies.{Policies}
use Rattle.update_policy.specs.declared.strategy.Strategy.{Strategy}
use Rattle.core_edges.specs.Answers.{Answering, AreAsked, Counting}
use Rattle.asp_core.specs.declared.cores.Core.{Core}
use Rattle.asp_core.specs.Cores.{entries_of}

-- the edge is kept, its answer sends the value, and the value is there
pub record IsChosen (h : HoldersShape) (answers : List ChoiceShape) (x : EdgeShape) : Type 0 where
  pub place : ℕ
  pub edge : slice_get h.edges place ≡ Some x
  pub answer : ChoiceShape
  pub kept : slice_get answers place ≡ Some answer
  pub chosen : is_chosen answer h x ≡ true
  pub filled : has_filled x.future h.filled ≡ true

-- a delivery along an edge is along one that a policy chose
abbrev pub IsChosenDelivery : HoldersShape → List ChoiceShape → DeliveryShape → Type 0
IsChosenDelivery h answers (Edge f from to) = IsChosen h answers (record { future = f; from = from; to = to })
IsChosenDelivery h answers (Need f to place) = Unit {0}

abbrev pub IsChosenEntry : HoldersShape → List ChoiceShape → EntryShape → Type 0
IsChosenEntry h answers (Lent k) = Unit {0}
IsChosenEntry h answers (Committed k r) = Unit {0}
IsChosenEntry h answers (Delivered d) = IsChosenDelivery h answers d

-- each delivery of these entries along an edge is along one that a policy chose
abbrev pub AreChosen : List EntryShape → HoldersShape → List ChoiceShape → Type 0
AreChosen entries h answers = Each (IsChosenEntry h answers) entries

-- and each edge that a policy chose, with the value there, was delivered
abbrev pub ChosenAreDelivered : HoldersShape → List ChoiceShape → Type 0
ChosenAreDelivered h answers = (x : EdgeShape) → IsChosen h answers x → has_edge x h.delivered ≡ true

module _ {P : Type 0} where
  -- each delivery in the journal of a core along an edge is along one that a policy chose
  abbrev pub DeliversChosen : Core P → Type 0
  DeliversChosen x = AreChosen (entries_of x) x.edges.holders.holders x.edges.holders.answers

  abbrev pub StaysChosen : (old new : Core P) → Type 0
  StaysChosen old new = DeliversChosen old → DeliversChosen new

-- Under a policy that always leaves

-- the entry is no delivery along an edge
abbrev pub IsAlongNoEdge : EntryShape → Type 0
IsAlongNoEdge (Lent k) = Unit {0}
IsAlongNoEdge (Committed k r) = Unit {0}
IsAlongNoEdge (Delivered (Edge f from to)) = ⊥
IsAlongNoEdge (Delivered (Need f to place)) = Unit {0}

-- whatever it is asked about, it leaves the value until it is needed
abbrev pub AlwaysLeaves : {P : Type 0} → Answering P → Type 0
AlwaysLeaves {P} answers = (p : P) (f : FutureShape) (from to : Name) → answers p f from to ≡ Leave

-- where the policies always leave, nothing is delivered along an edge
abbrev pub LazyDeliversNothing : Type 1
LazyDeliversNothing = (P : Type 0) (answers : Answering P) (counts : Counting P) (strategies : FutureShape → Strategy)
    (entries : List EntryShape) (h : HoldersShape) (choices : List ChoiceShape) (old new : Policies P)
    → AlwaysLeaves answers → AreAsked answers counts strategies h.edges choices old new
    → AreChosen entries h choices → Each IsAlongNoEdge entries
