use Rattle.std.proofs.Common.{List, arith, subst}
use Rattle.wait_circles.specs.declared.ways.Mark.{Mark}
use Rattle.wait_circles.specs.Walks.{AreTold}
use Rattle.wait_circles.proofs.FoundLemmas.{ends_found}
use Rattle.wait_circles.proofs.ways.ways_of.Goals as goal

pub returns-clause-ends : goal.returns-clause-ends
returns-clause-ends c =
    let over = c.loop-from-test.false in
    ends_found c.args.next.now c.loop-from.found c.loop-from.from c.in_ok-ends_in.field-0.items c.loop-from.invariant (omega (arith, over)) (subst (λ (ms : List Mark). AreTold ms c.in_ok-ends_in.field-0.items) c.deref.ensures.value c.in_ok-ends_in.ensures.ends)
