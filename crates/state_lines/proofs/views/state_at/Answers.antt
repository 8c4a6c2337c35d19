use Rattle.std.proofs.Common.{◌≡◌, ◌≤◌, List, ℕ, length, slice_get, Option, Some, None, sym, ap, subst, ◌∙◌, arith}
use Rattle.std.specs.Arc.{arc_value}
use Rattle.std.proofs.lemmas.Option.{slice_get-get_or, slice_get_past}
use Rattle.asp_model.specs.declared.outcome.ActivityReport.{ActivityReport}
use Rattle.code_table.specs.declared.code.Node.{Node}
use Rattle.def_paths.specs.Outcomes.{EndShape}
use Rattle.run_ends.specs.declared.ends.EndState.{EndState}
use Rattle.run_ends.specs.Ends.{IsSnapshotOf}
use Rattle.state_lines.specs.Views.{IsSeen}
use Rattle.state_lines.proofs.ViewLemmas.{end_at, none_reported, none_seen}
use Rattle.state_lines.proofs.views.state_at.Goals as goal

pub returns-then-number-len : goal.returns-then-number-len
returns-then-number-len c = record {
  state = λ o h.
      let past : length c.args.end.now.outcome.activities.items ≤ c.args.number = omega arith in
      let none : slice_get o.ends c.args.number ≡ None = none_reported c.args.end.now.outcome.activities.items o.ends c.args.number (ap (λ s. s.activities) h.outcome) (slice_get_past c.args.end.now.outcome.activities.items c.args.number past) in
      subst (λ (x : Option EndShape). IsSeen o x None) (sym none) tt;
}

pub returns-in_default : goal.returns-in_default
returns-in_default c = record {
  state = λ o h.
      let none : slice_get o.ends c.args.number ≡ None = none_seen (arc_value c.args.end.now.code) c.args.end.now.states.items o.ends c.args.number h.states (sym c.in_default.ensures.state) in
      subst (λ (x : Option EndShape). IsSeen o x None) (sym none) tt;
}

pub returns : goal.returns
returns c = record {
  state = λ o h.
      let n : ℕ = c.args.number in
      let k : List Node = arc_value c.args.end.now.code in
      let rs : List ActivityReport = c.args.end.now.outcome.activities.items in
      let xs : List EndState = c.args.end.now.states.items in
      let r : ActivityReport = c.index-activity.result.now in
      let x : EndState = c.in-Some.state.now in
      let code : k ≡ c.deref.result.now = sym c.deref.ensures in
      let reported : slice_get rs n ≡ Some r = slice_get-get_or rs n r (omega arith) ∙ ap Some (sym c.index-activity.ensures) in
      let there : slice_get xs n ≡ Some x = sym c.in-Some.ensures.state in
      let at = end_at k rs xs o.ends n r x (ap (λ s. s.activities) h.outcome) h.states reported there in
      subst (λ (e : Option EndShape). IsSeen o e (Some c.state_of.result)) (sym at.is) (c.state_of.ensures.state o at.end h.futures (subst (λ (q : List Node). IsSnapshotOf q x at.end.snapshot) code at.snapshot) (ap (λ s. s.status) at.report));
}
