use Rattle.std.proofs.Common.{◌≡◌, take}
use Rattle.code_table.specs.Fitting.{CapturesFit, captured_names}
use Rattle.code_compiler.specs.Slots.{environment}
use Rattle.code_compiler.proofs.methods.captures.Given as goal

abbrev pub invariant-loop-name : goal.invariant-loop-name
invariant-loop-name l = record {
  names : captured_names l.captured.items ≡ take l.name-index l.names;
  fit : CapturesFit l.scope.captured.now (environment l.scope.bound.now) l.captured.items;
}
