use Rattle.std.proofs.Common.{◌≡◌, []}
use Rattle.std.specs.List.{All}
use Rattle.core_ranks.proofs.waiting.Waiting.someone.Given as goal

abbrev pub invariant-loop-future : goal.invariant-loop-future
invariant-loop-future l = All (λ p. p.1.now.items ≡ []) l.yielded
