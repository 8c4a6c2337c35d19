use Rattle.std.proofs.Common.{ℕ, List, sym, subst}
use Rattle.request_queue.specs.Numbers.{IsLeast}
use Rattle.request_queue.proofs.NumberLemmas.{first_least}
use Rattle.request_queue.proofs.numbers.Numbers.first.Goals as goal

pub returns : goal.returns
returns c =
    let ns : List ℕ = c.self.inside.numbers.items in
    let least : IsLeast ns c.copied.result = subst (IsLeast ns) (sym c.copied.ensures) (first_least ns c.front.result c.self.invariant c.front.ensures.item) in
    record { least = subst (λ (ms : List ℕ). IsLeast ms c.copied.result) c.self.view_is least }
