use Rattle.std.proofs.Common.{◌≡◌}
use Rattle.path_equal.specs.Searches.{searched}
use Rattle.path_equal.proofs.StackLemmas.{Reached, services_places}
use Rattle.path_equal.proofs.stack.past_services.Given as goal

abbrev pub invariant-loop-i : goal.invariant-loop-i
invariant-loop-i l = Reached l.code l.all.frames.now l.all.env.now l.all.operands.now l.i l.rest (λ xs. l.search ≡ searched (services_places xs) l.fn.start)
