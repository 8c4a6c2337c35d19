-- What is owed may be delivered.
use Rattle.std.specs.Prelude.{◌≡◌, ℕ, true, List, Some, is_some, slice_get}
use Rattle.asp_model.specs.History.{ChoiceShape, DeliveryShape}
use Rattle.asp_model.specs.Names.{FutureShape}
use Rattle.def_journals.specs.Edges.{EdgeShape, HoldersShape, has_filled}
use Rattle.def_journals.specs.Journals.{RunShape, delivered}
use Rattle.def_journals.specs.Owed.{next_owed}
use Rattle.law_journals.specs.EdgesKept.{IsKnownEdge}
use Rattle.law_steps.specs.Linked.{Each}
use Rattle.law_steps.specs.Reached.{IsFilled}
use Rattle.law_journals.specs.Numbered.{AreNumbered}
use Rattle.law_core.specs.Owed.{is_due}
use Rattle.core_state.specs.Deliveries.{IsPassed}

-- the edges are between activities that are there, and what counts as filled has a value
pub record AreOfRun (s : RunShape) (h : HoldersShape) : Type 0 where
  pub numbered : AreNumbered s
  pub edges : Each (IsKnownEdge s.configuration) h.edges
  pub filled : (f : FutureShape) → has_filled f h.filled ≡ true → IsFilled s.configuration f

-- an edge that is due was passed to one that is in, and its future has a value
abbrev pub DueEdgesArePassed : Type 0
DueEdgesArePassed = (s : RunShape) (h : HoldersShape) (answers : List ChoiceShape) (place : ℕ) (x : EdgeShape)
    → AreOfRun s h → slice_get h.edges place ≡ Some x → is_due s h answers place ≡ true
    → (k : ℕ) × (passed : IsPassed s k x.future x.from) × (passed.name ≡ x.to)

-- so may what is owed next, a need or along an edge
abbrev pub OwedMayBeDelivered : Type 0
OwedMayBeDelivered = (s : RunShape) (h : HoldersShape) (answers : List ChoiceShape) (d : DeliveryShape)
    → AreOfRun s h → next_owed s h answers ≡ Some d → is_some (delivered d s) ≡ true
