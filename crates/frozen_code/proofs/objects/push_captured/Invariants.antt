use Rattle.std.proofs.Common.{◌≡◌, ◌++◌, take}
use Rattle.code_laws.specs.Places.{captured_places}
use Rattle.frozen_code.proofs.objects.push_captured.Given as goal

abbrev pub invariant-loop-capture : goal.invariant-loop-capture
invariant-loop-capture l = l.all.items ≡ l.fn.all.items ++ captured_places l.places (take l.capture-index l.captured)
