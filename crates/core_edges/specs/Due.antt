-- The edge that is due: the first one that is owed to an activity that is in.
use Rattle.std.specs.Prelude.{◌≡◌, ℕ, false, Option, Some, None}
use Rattle.core_sets.specs.Firsts.{IsFirstFrom}
use Rattle.future_update.specs.declared.edge.EdgeNames.{EdgeNames}
use Rattle.future_update.specs.Names.{edge_named}
use Rattle.future_update.specs.Holders.{HoldersView, edge_in, owed_to_one_in}

pub record IsDueAt (v : HoldersView) (x : EdgeNames) : Type 0 where
  pub place : ℕ
  pub first : IsFirstFrom (owed_to_one_in v) 0 (Some place)
  pub edge : edge_in v place ≡ Some (edge_named x)

abbrev pub IsDue : HoldersView → Option EdgeNames → Type 0
IsDue v None = (place : ℕ) → owed_to_one_in v place ≡ false
IsDue v (Some x) = IsDueAt v x
