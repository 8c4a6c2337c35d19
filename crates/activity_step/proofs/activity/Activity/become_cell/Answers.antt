use Rattle.std.proofs.Common.{◌≡◌, ◌+◌, suc, List, reverse, refl, ◌∙◌, rules, arith}
use Rattle.std.specs.Arc.{arc_value}
use Rattle.code_table.specs.declared.code.Node.{Node}
use Rattle.step_machine.specs.Standing.{View, view_of}
use Rattle.step_machine.specs.Services.{IsAtSome}
use Rattle.code_table.specs.Cells.{bare}
use Rattle.activity_step.specs.declared.activity.Activity.{Activity}
use Rattle.activity_step.proofs.RunLemmas.{cell_became, some_of}
use Rattle.activity_step.proofs.activity.Activity.become_cell.Goals as goal

pub returns-clause-becomes : goal.returns-clause-becomes
returns-clause-becomes c =
    λ a contexts redex h splits.
    let x : Activity = c.args.self.now in
    let k : List Node = arc_value x.code in
    let v : View = view_of c.redex.new.self in
    let same : c.nodes-nodes.result.now ≡ k = c.nodes-nodes.ensures.nodes ∙ c.deref.ensures in
    let some : IsAtSome k v a.term (reverse a.services) c.in_ok-count.count = some_of k c.nodes-nodes.result.now (view_of x.state.machine) v c.in_ok-count.count a.term (reverse a.services) same h.state.machine c.in_ok-count.ensures.redex in
    let plus : c.in_ok-reductions.reductions ≡ x.count + 1 = search (rules, c.in_ok-reductions.ensures, c.checked_add.ensures) in
    let counted : c.in_ok-reductions.reductions ≡ suc x.count = omega (arith, plus) in
    let y : Activity = record x { state = record { machine = c.become_place.new.self; store = c.add.new.self; lines = x.state.lines }; count = c.in_ok-reductions.reductions } in
    cell_became x y a v c.in_ok-count.count c.in_ok-place.place contexts redex (bare c.args.cell) h splits some c.become_place.ensures.view c.in_ok-place.ensures.place c.in_ok-place.ensures.cells refl refl refl refl counted
