use Rattle.std.proofs.Common.{◌≡◌, ◌++◌, take, drop}
use Rattle.code_laws.specs.Places.{captured_places}
use Rattle.activity_step.proofs.objects.push_captured.Given as goal

abbrev pub invariant-loop-capture : goal.invariant-loop-capture
invariant-loop-capture l = l.places.items ≡ l.fn.places.items ++ captured_places (drop l.machine.base l.machine.env.items) (take l.capture-index l.captured)
