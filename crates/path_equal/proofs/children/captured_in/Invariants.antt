use Rattle.std.proofs.Common.{◌≡◌, ◌≤◌, drop, length}
use Rattle.path_equal.specs.Reading.{captured_in}
use Rattle.code_table.specs.Places.{placed}
use Rattle.path_equal.proofs.children.captured_in.Given as goal

abbrev pub invariant-loop-method : goal.invariant-loop-method
invariant-loop-method l = record {
  within : l.start ≤ length (placed l.held);
  so_far : captured_in l.label.text l.nth (drop l.method-index l.methods) (drop l.start (placed l.held)) ≡ captured_in l.label.text l.nth l.methods (placed l.held);
}
