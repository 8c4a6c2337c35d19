use Rattle.std.proofs.Common.{◌≡◌, ℕ, false, List, Some, sym, subst}
use Rattle.std.specs.List.{remove}
use Rattle.request_queue.specs.Numbers.{IsLeast, Turns}
use Rattle.request_queue.proofs.NumberLemmas.{Ascends, least_leaves, on_some, search_less, search_none}
use Rattle.request_queue.proofs.numbers.Numbers.forget.Goals as goal

pub invariant_of-self : goal.invariant_of-self
invariant_of-self c =
    let ns : List ℕ = c.self.inside.numbers.items in
    let least = subst (λ (ms : List ℕ). IsLeast ms (Some c.args.number)) (sym c.self.view_is) (c.begins_with.ensures.least c.if-begins_with.true) in
    subst Ascends (sym c.pop_front.ensures.rest) (least_leaves ns c.args.number c.self.invariant least).1

pub returns-then-begins_with : goal.returns-then-begins_with
returns-then-begins_with c =
    let k = c.args.number in
    let ns : List ℕ = c.self.inside.numbers.items in
    let new : List ℕ = c.pop_front.new.self.items in
    let least = subst (λ (ms : List ℕ). IsLeast ms (Some k)) (sym c.self.view_is) (c.begins_with.ensures.least c.if-begins_with.true) in
    let turns = subst (Turns k false ns) (sym c.pop_front.ensures.rest) (least_leaves ns k c.self.invariant least).0 in
    record { forgotten = subst (λ (ms : List ℕ). Turns k false ms new) c.self.view_is turns }

pub invariant_of-self-in-Ok : goal.invariant_of-self-in-Ok
invariant_of-self-in-Ok c =
    let ns : List ℕ = c.self.inside.numbers.items in
    let items : c.remove.new.self.items ≡ remove ns c.in-Ok.at = on_some c.remove.result (c.remove.ensures.variant.1 c.in-Ok.ensures.bound) c.remove.ensures.items in
    subst Ascends (sym items) (search_less ns c.in-Ok.at c.args.number c.self.invariant c.in-Ok.ensures.position).1

pub returns-in-Ok : goal.returns-in-Ok
returns-in-Ok c =
    let k = c.args.number in
    let ns : List ℕ = c.self.inside.numbers.items in
    let new : List ℕ = c.remove.new.self.items in
    let items : new ≡ remove ns c.in-Ok.at = on_some c.remove.result (c.remove.ensures.variant.1 c.in-Ok.ensures.bound) c.remove.ensures.items in
    let turns = subst (Turns k false ns) (sym items) (search_less ns c.in-Ok.at k c.self.invariant c.in-Ok.ensures.position).0 in
    record { forgotten = subst (λ (ms : List ℕ). Turns k false ms new) c.self.view_is turns }

pub returns-in_default : goal.returns-in_default
returns-in_default c =
    let k = c.args.number in
    let ns : List ℕ = c.self.inside.numbers.items in
    let turns = search_none ns k c.binary_search.result c.self.invariant c.binary_search.ensures.position c.in_default.not-Ok in
    record { forgotten = subst (λ (ms : List ℕ). Turns k false ms ms) c.self.view_is turns }
