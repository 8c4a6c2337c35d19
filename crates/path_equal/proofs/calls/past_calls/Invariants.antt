use Rattle.std.proofs.Common.{◌≡◌, drop, length}
use Rattle.step_machine.specs.Calls.{beside_count, rounds}
use Rattle.path_equal.specs.Contexts.{all_of}
use Rattle.path_equal.specs.Searches.{searched}
use Rattle.path_equal.proofs.calls.past_calls.Given as goal

abbrev pub invariant-loop-i : goal.invariant-loop-i
invariant-loop-i l = length l.beside ≡ beside_count l.spread (length l.members)
    → (let all = rounds l.spread l.given l.members l.beside in searched (all_of (drop l.i all)) l.search ≡ searched (all_of all) l.fn.start)
