use Rattle.std.proofs.Common.{ℕ, Some, subst}
use Rattle.request_queue.specs.Numbers.{IsLeast}
use Rattle.request_queue.proofs.NumberLemmas.{equal_same}
use Rattle.request_queue.proofs.numbers.Numbers.begins_with.Goals as goal

pub returns-in-Some : goal.returns-in-Some
returns-in-Some c = record { least = λ t. subst (λ (n : ℕ). IsLeast c.args.self.now (Some n)) (equal_same c.in-Some.first c.args.number t) c.in-Some.ensures.least }
