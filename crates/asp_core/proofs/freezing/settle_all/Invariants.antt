use Rattle.std.specs.List.{AllZip}
use Rattle.asp_core.specs.Frozen.{KeepsEntry}
use Rattle.asp_core.proofs.freezing.settle_all.Given as goal

abbrev pub invariant-loop-entry : goal.invariant-loop-entry
invariant-loop-entry l = AllZip KeepsEntry l.initial.activities l.activities
