use Rattle.std.proofs.Common.{false}
use Rattle.step_machine.specs.Views.{IsDeeper}
use Rattle.step_machine.specs.declared.frames.Focus.{Focus}
use Rattle.step_machine.specs.declared.frames.Focus.TheVariants as focus
use Rattle.std.proofs.Common.{ℕ}
use Rattle.std.proofs.Common.{rules, ◌≡◌, true, List, refl, sym, subst}
use Rattle.code_table.specs.declared.code.Node.{Node}
use Rattle.step_machine.specs.Standing.{View, view_of}
use Rattle.step_machine.specs.Views.{IsAdvanced, IsInner, IsSettledAt}
use Rattle.step_machine.proofs.machine.Machine.descend.Goals as goal

pub returns-then-branch : goal.returns-then-branch
returns-then-branch c = record {
  settled = λ t vs h inner.
      let k : List Node = c.args.nodes.now in
      let new : View = view_of c.advance.new.self in
      let here = c.loop-self.invariant t vs h inner in
      let done : c.in_ok-advance-in-Node.field-0 ≡ true = search (rules, c.if-branch.true) in
      let a : IsAdvanced k t vs c.in-Node.number c.in-Node.from new true = subst (IsAdvanced k t vs c.in-Node.number c.in-Node.from new) done (c.in_ok-advance-in-Node.ensures.advanced t vs here.0 c.in-Node.is) in
      record { standing = a.0; settled = subst (IsSettledAt k new.frames) (sym a.1) refl };
}

pub returns-in-Place : goal.returns-in-Place
returns-in-Place c = record {
  settled = λ t vs h inner. absurd (subst IsInner c.in-Place.is (c.loop-self.invariant t vs h inner).1);
}

pub returns-in-Asked : goal.returns-in-Asked
returns-in-Asked c = record {
  settled = λ t vs h inner.
      let new : View = view_of c.loop-self.self in
      record { standing = (c.loop-self.invariant t vs h inner).0; settled = subst (IsSettledAt c.args.nodes.now new.frames) (sym c.in-Asked.is) tt };
}

pub returns-in-Called : goal.returns-in-Called
returns-in-Called c = record {
  settled = λ t vs h inner.
      let new : View = view_of c.loop-self.self in
      record { standing = (c.loop-self.invariant t vs h inner).0; settled = subst (IsSettledAt c.args.nodes.now new.frames) (sym c.in-Called.is) tt };
}

pub returns-in-Calls : goal.returns-in-Calls
returns-in-Calls c = record { settled = λ t vs h inner. c.deal.ensures.settled t vs (c.loop-self.invariant t vs h inner).0 c.in-Calls.is }

inner_below : (n : ℕ) (f : Focus) → IsDeeper n f → IsInner f
inner_below n (focus.Node number from done) h = tt
inner_below n (focus.Place p) h = elim h [ ]
inner_below n (focus.Asked count) h = elim h [ ]
inner_below n (focus.Calls spread number members done) h = elim h [ ]
inner_below n (focus.Called number count) h = elim h [ ]

pub loop-self-preserved : goal.loop-self-preserved
loop-self-preserved c =
    λ t vs h inner.
    let k : List Node = c.args.nodes.now in
    let new : View = view_of c.advance.new.self in
    let here = c.loop-self.invariant t vs h inner in
    let entered : c.in_ok-advance-in-Node.field-0 ≡ false = search (rules, c.if-branch.false) in (
      subst (IsAdvanced k t vs c.in-Node.number c.in-Node.from new) entered (c.in_ok-advance-in-Node.ensures.advanced t vs here.0 c.in-Node.is),
      inner_below c.in-Node.number c.advance.new.self.focus (c.in_ok-advance-in-Node.ensures.deeper entered),
    )
