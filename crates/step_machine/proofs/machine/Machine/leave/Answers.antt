use Rattle.std.proofs.Common.{rules, ◌≡◌, true, false, List, sym, ap, subst, ◌∙◌, reverse}
use Rattle.code_table.specs.declared.code.Node.{Node}
use Rattle.step_machine.specs.declared.frames.Focus.TheVariants as focus
use Rattle.step_machine.specs.Standing.{Standing, View, view_of}
use Rattle.step_machine.specs.Views.{IsAlone, IsFilled, IsSettledAt}
use Rattle.step_machine.proofs.machine.Machine.leave.Goals as goal

pub returns-then-branch : goal.returns-then-branch
returns-then-branch c = record {
  settled = λ t vs h at.
      let k : List Node = c.args.nodes.now in
      let old : View = view_of c.args.self.now in
      let new : View = view_of c.fill.new.self in
      let filled : c.in_ok-fill.field-0 ≡ true = search (rules, c.if-branch.true) in
      let standing : Standing k new t vs = subst (IsFilled k t vs old new) filled (c.in_ok-fill.ensures.filled k t vs h at) in
      c.descend.ensures.settled t vs standing (c.in_ok-fill.ensures.inner filled);
}

pub returns-else-branch : goal.returns-else-branch
returns-else-branch c = record {
  settled = λ t vs h at.
      let k : List Node = c.args.nodes.now in
      let old : View = view_of c.args.self.now in
      let new : View = view_of c.fill.new.self in
      let none : c.in_ok-fill.field-0 ≡ false = search (rules, c.if-branch.false) in
      let rests : IsFilled k t vs old new false = subst (IsFilled k t vs old new) none (c.in_ok-fill.ensures.filled k t vs h at) in
      let here : new.focus ≡ focus.Place c.args.place = ap (λ (v : View). v.focus) rests.0 ∙ at in
      let alone : IsAlone (reverse new.frames) = subst (λ (v : View). IsAlone (reverse v.frames)) (sym rests.0) rests.1 in
      record { standing = subst (λ (v : View). Standing k v t vs) (sym rests.0) h; settled = subst (IsSettledAt k new.frames) (sym here) alone };
}
