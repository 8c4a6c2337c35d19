use Rattle.std.proofs.Common.{◌≡◌, ◌≤◌, ◌++◌, drop, length}
use Rattle.code_table.specs.Places.{placed}
use Rattle.deep_copy.specs.Reached.{captured_places}
use Rattle.deep_copy.proofs.reached.note_captured.Given as goal

abbrev pub invariant-loop-method : goal.invariant-loop-method
invariant-loop-method l = record {
  within : l.start ≤ length (placed l.held);
  so_far : l.places.items ++ captured_places (drop l.method-index l.methods) (drop l.start (placed l.held)) ≡ l.fn.places.items ++ captured_places l.methods (placed l.held);
}
