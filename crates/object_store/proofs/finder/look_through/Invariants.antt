use Rattle.std.proofs.Common.{◌≡◌, ◌≤◌, ◌-◌, ◌++◌, length, drop}
use Rattle.asp_model.specs.Shapes.{future_shape}
use Rattle.object_store.specs.Holders.{holders, holders_from}
use Rattle.object_store.proofs.finder.look_through.Given as goal

abbrev pub invariant-loop-place : goal.invariant-loop-place
invariant-loop-place l = record {
  within : l.place ≤ length l.cells.items;
  rest : l.places.items ++ holders_from l.place (future_shape l.future) (drop l.place l.cells.items) ≡ holders (future_shape l.future) l.cells.items;
}

abbrev pub decreases-loop-place : goal.decreases-loop-place
decreases-loop-place l = length l.cells.items - l.place
