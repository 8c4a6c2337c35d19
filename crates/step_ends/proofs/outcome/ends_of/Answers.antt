use Rattle.std.proofs.Common.{◌≡◌, ◌∷◌, ◌++◌, [], List, sym, subst}
use Rattle.std.specs.Global.{Box}
use Rattle.asp_model.specs.declared.outcome.ActivityReport.{ActivityReport}
use Rattle.asp_model.specs.Names.{Name}
use Rattle.asp_model.specs.Chase.{Values}
use Rattle.code_table.specs.declared.code.Node.{Node}
use Rattle.future_table.specs.Values.{values_of}
use Rattle.def_paths.specs.Outcomes.{EndShape}
use Rattle.run_ends.specs.declared.ends.EndState.{EndState}
use Rattle.step_activity.specs.declared.actor.Actor.{Actor}
use Rattle.step_ends.specs.Ends.{AreClosedStates}
use Rattle.step_ends.proofs.ReportLemmas.{IsPart, all_made, none_made, one_made}
use Rattle.step_ends.proofs.outcome.ends_of.Goals as goal

-- at equal entries, reports and states
moved : (k : List Node) (values : Values) (es : List EndShape) (xs ys : List (Name × Box Actor)) (rs qs : List ActivityReport) (ss ts : List EndState) → xs ≡ ys → rs ≡ qs → ss ≡ ts → IsPart k values xs es rs ss → IsPart k values ys es qs ts
moved k values es xs ys rs qs ss ts e f g h = subst (IsPart k values ys es qs) g (subst (λ (q : List ActivityReport). IsPart k values ys es q ss) f (subst (λ (y : List (Name × Box Actor)). IsPart k values y es rs ss) e h))

pub loop-name-init : goal.loop-name-init
loop-name-init c =
    let values : Values = values_of c.args.futures.now in
    let xs : List (Name × Box Actor) = c.args.activities.entries in
    let ys : List (Name × Box Actor) = c.into_iter-name-iterator.result in
    let same : xs ≡ ys = sym c.into_iter-name-iterator.ensures.into_iter_gives.0 in (
      subst AreClosedStates same c.requires.closed,
      (λ k es h. moved k values es xs ys [] c.in_ok-reports.reports.items [] c.in_ok-states.states.items same (sym c.in_ok-reports.ensures.items) (sym c.in_ok-states.ensures.items) (none_made k values xs es h)),
    )

pub end_of-requires-clause-closed : goal.end_of-requires-clause-closed
end_of-requires-clause-closed c = (subst AreClosedStates c.in-Some.ensures.steps c.loop-name.invariant.0).0

pub loop-name-preserved : goal.loop-name-preserved
loop-name-preserved c =
    let values : Values = values_of c.args.futures.now in
    let x : Name × Box Actor = (c.in-Some.name, c.in-Some.actor) in
    let xs : List (Name × Box Actor) = c.next.new.self in
    let rs : List ActivityReport = c.loop-name.reports.items in
    let ss : List EndState = c.loop-name.states.items in
    let r : ActivityReport = c.in_ok-report.report in
    let s : EndState = c.in_ok-report.state in (
      (subst AreClosedStates c.in-Some.ensures.steps c.loop-name.invariant.0).1,
      (λ k es h.
          let before : IsPart k values (x ∷ xs) es rs ss = subst (λ (y : List (Name × Box Actor)). IsPart k values y es rs ss) c.in-Some.ensures.steps (c.loop-name.invariant.1 k es h) in
          moved k values es xs xs (rs ++ r ∷ []) c.push.new.self.items (ss ++ s ∷ []) c.push-in-loop-name.new.self.items (λ i. xs) (sym {A = List ActivityReport} c.in_ok-push.ensures.items) (sym {A = List EndState} c.in_ok-push-2.ensures.items)
          (one_made k values x xs es rs ss r s before c.in_ok-report.ensures.end)),
    )

pub returns : goal.returns
returns c = record {
  ends = λ k es h.
      let values : Values = values_of c.args.futures.now in
      all_made k values es c.loop-name.reports.items c.loop-name.states.items (subst (λ (y : List (Name × Box Actor)). IsPart k values y es c.loop-name.reports.items c.loop-name.states.items) c.in-None.ensures.steps.0 (c.loop-name.invariant.1 k es h));
}
