use Rattle.std.proofs.Common.{false, sym}
use Rattle.std.proofs.Common.{rules, ◌≡◌, true, List, subst}
use Rattle.code_table.specs.declared.code.Node.{Node}
use Rattle.step_machine.specs.Standing.{Standing, View, view_of}
use Rattle.step_machine.specs.Views.{IsFilled}
use Rattle.step_machine.proofs.machine.Machine.reach_from.Goals as goal

pub returns-then-branch : goal.returns-then-branch
returns-then-branch c = record {
  site = λ t vs h at.
      let k : List Node = c.args.nodes.now in
      let old : View = view_of c.args.self.now in
      let new : View = view_of c.fill.new.self in
      let filled : c.in_ok-fill.field-0 ≡ true = search (rules, c.if-branch.true) in
      c.reach_down.ensures.site t vs (subst (IsFilled k t vs old new) filled (c.in_ok-fill.ensures.filled k t vs h at));
}

pub returns-else-branch : goal.returns-else-branch
returns-else-branch c = record {
  site = λ t vs h at.
      let k : List Node = c.args.nodes.now in
      let old : View = view_of c.args.self.now in
      let new : View = view_of c.fill.new.self in
      let alone : c.in_ok-fill.field-0 ≡ false = search (rules, c.if-branch.false) in
      let still : IsFilled k t vs old new false = subst (IsFilled k t vs old new) alone (c.in_ok-fill.ensures.filled k t vs h at) in
      subst (λ (v : View). Standing k v t vs) (sym still.0) h;
}
