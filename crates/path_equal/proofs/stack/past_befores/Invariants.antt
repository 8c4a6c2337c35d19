use Rattle.std.proofs.Common.{◌≡◌, List, ℕ}
use Rattle.step_machine.specs.Items.{contexts_of}
use Rattle.path_equal.specs.Contexts.{places_before}
use Rattle.path_equal.specs.Searches.{searched}
use Rattle.path_equal.proofs.StackLemmas.{Reached}
use Rattle.path_equal.proofs.stack.past_befores.Given as goal

abbrev pub invariant-loop-frame : goal.invariant-loop-frame
invariant-loop-frame l = (env : List ℕ) → Reached l.code l.frames env l.operands l.frame-index l.rest (λ xs. l.search ≡ searched (places_before (contexts_of xs)) l.start)
