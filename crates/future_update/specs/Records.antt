-- What the records say of futures and edges.
use Rattle.std.specs.Prelude.{◌≡◌, ◌<◌, ℕ, List, length, map, slice_get, vec_len, vec_capacity, Bool}
use Rattle.std.specs.List.{AllByRecursion}
use Rattle.asp_model.specs.Names.{Name}
use Rattle.asp_model.specs.History.{ChoiceShape}
use Rattle.asp_model.specs.Shapes.{choice_shape}
use Rattle.def_journals.specs.Edges.{HoldersShape, owed_at}
use Rattle.indexmap.specs.IndexMap.{keys}
use Rattle.indexmap.specs.IndexSet.{spare}
use Rattle.future_update.specs.declared.records.Records.{Records}
use Rattle.future_update.specs.Names.{AreNames, edge_of, future_of, names_in}
use Rattle.future_update.specs.Numbered.{AreEdges, AreFutures, IsKnownHome, IsKnownReceipt, IsPassed, edge_at, future_at, home_entry, receipt_entry}
use Rattle.core_sets.specs.Ticks.{AreTicks, HasRoom as HasTickRoom, size}

abbrev pub names_of : Records → List Name
names_of r = names_in r.names

abbrev pub shape_of : Records → HoldersShape
shape_of r = record {
  homes = map (home_entry (names_of r)) r.homes.entries;
  edges = map (edge_of (names_of r)) r.edges.keys;
  filled = map (λ i. future_of (names_of r) (future_at (keys r.homes) i)) r.filled.order.items;
  received = map (receipt_entry (names_of r)) r.received.keys;
  delivered = map (λ p. edge_of (names_of r) (edge_at r.edges.keys p)) r.delivered.order.items;
}

abbrev pub answers_of : Records → List ChoiceShape
answers_of r = map choice_shape r.answers.items

-- whether the edge of a place is owed
abbrev pub owes : Records → ℕ → Bool
owes r p = owed_at (shape_of r) (slice_get (shape_of r).edges p) (slice_get (answers_of r) p)

pub record AreRecords (r : Records) : Type 0 where
  pub names : AreNames (names_of r)
  pub homes : AllByRecursion (IsKnownHome (names_of r)) r.homes.entries
  pub futures : AreFutures (keys r.homes)
  pub filled : AreTicks r.filled
  pub filled_size : size r.filled ≡ length r.homes.entries
  pub edges : AllByRecursion (IsPassed (names_of r)) r.edges.keys
  pub apart : AreEdges r.edges.keys
  pub answers : length r.answers.items ≡ length r.edges.keys
  pub delivered : AreTicks r.delivered
  pub delivered_size : size r.delivered ≡ length r.edges.keys
  pub received : AllByRecursion (IsKnownReceipt (names_of r)) r.received.keys

-- one more edge takes no memory
pub record HasRoom (r : Records) : Type 0 where
  pub edges : 0 < spare r.edges
  pub answers : vec_len r.answers < vec_capacity r.answers
  pub delivered : HasTickRoom r.delivered
