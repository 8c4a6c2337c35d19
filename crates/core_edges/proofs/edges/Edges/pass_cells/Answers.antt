use Rattle.std.proofs.Common.{sym, subst, take, arith}
use Rattle.code_table.specs.Cells.{ArePlain, coded}
use Rattle.core_edges.specs.Passing.{ArePassed, future_held, futures_held}
use Rattle.core_edges.proofs.PassingLemmas.{none_passed, passed_then, plain_held, stored_more}
use Rattle.core_edges.proofs.edges.Edges.pass_cells.Goals as goal

pub loop-place-init : goal.loop-place-init
loop-place-init g c = none_passed g.P.UpdatePolicy.answer g.P.UpdatePolicy.asked c.args.from.now c.args.to.now c.args.self.now

pub loop-place-preserved : goal.loop-place-preserved
loop-place-preserved g c =
    let cells = c.args.cells.now.items in
    let p = c.loop-place.place in
    let x = coded c.view.result in
    subst (λ fs. ArePassed g.P.UpdatePolicy.answer g.P.UpdatePolicy.asked fs c.args.from.now c.args.to.now c.args.self.now c.pass_cell.new.self) (sym (stored_more cells p x (omega arith) c.view.ensures.view))
    (passed_then g.P.UpdatePolicy.answer g.P.UpdatePolicy.asked (futures_held (take p cells)) (future_held x) c.args.from.now c.args.to.now c.args.self.now c.loop-place.self c.pass_cell.new.self c.loop-place.invariant c.in_ok-pass_cell.ensures.passed)

pub returns-in-Some : goal.returns-in-Some
returns-in-Some g c =
    let none = plain_held c.args.cells.now.items (subst ArePlain c.in-Some.ensures.cells c.in-Some.ensures.plain) in
    record {
      passed = subst (λ fs. ArePassed g.P.UpdatePolicy.answer g.P.UpdatePolicy.asked fs c.args.from.now c.args.to.now c.args.self.now c.args.self.now) (sym none)
          (none_passed g.P.UpdatePolicy.answer g.P.UpdatePolicy.asked c.args.from.now c.args.to.now c.args.self.now);
    }
