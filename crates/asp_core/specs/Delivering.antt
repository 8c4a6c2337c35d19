-- What a delivery is to a state and its edges.
use Rattle.std.specs.Prelude.{◌≡◌, ℕ, false, List, Option, Some, None}
use Rattle.asp_model.specs.History.{Delivered, DeliveryShape, HistoryShape, with_entry}
use Rattle.asp_model.specs.Names.{FutureShape, Name}
use Rattle.future_update.specs.Names.{delivery_along}
use Rattle.def_journals.specs.Edges.{EdgeShape}
use Rattle.def_journals.specs.Journals.{RunShape}
use Rattle.code_table.specs.declared.code.Node.{Node}
use Rattle.future_update.specs.Holders.{HoldersView, edge_in, owed_to_one_in}
use Rattle.core_sets.specs.Firsts.{IsFirstFrom}
use Rattle.core_edges.specs.declared.edges.Edges.{Edges}
use Rattle.core_edges.specs.Labels.{AreByLabels}
use Rattle.core_state.specs.declared.state.CoreState.{CoreState}
use Rattle.asp_core.specs.Calls.{MayDeliver}
use Rattle.asp_core.specs.Runs.{Stand}

-- both stand for a run in which it may be delivered
abbrev pub StandForDelivery : CoreState → HoldersView → DeliveryShape → Type 0
StandForDelivery x v d = (h : HistoryShape) × (code : List Node) × (s : RunShape) × Stand h code s x v × MayDeliver s d

-- it was entered
abbrev pub IsHanded : {P : Type 0} → List (FutureShape × Name) → HistoryShape → List Node → DeliveryShape
    → CoreState → Edges P → Type 0
IsHanded homes h code d y w = (t : RunShape) × Stand (with_entry h (Delivered d)) code t y w.holders
    × AreByLabels homes t.configuration w

-- the first edge that is owed to one that is in, or there is none
abbrev pub IsDueDelivery : HoldersView → Option DeliveryShape → Type 0
IsDueDelivery v None = (place : ℕ) → owed_to_one_in v place ≡ false
IsDueDelivery v (Some d) = (place : ℕ) × (x : EdgeShape) × IsFirstFrom (owed_to_one_in v) 0 (Some place)
    × (edge_in v place ≡ Some x) × (d ≡ delivery_along x)
