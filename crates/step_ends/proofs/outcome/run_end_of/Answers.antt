use Rattle.std.proofs.Common.{◌≡◌, ◌∙◌, List, map, sym, ap, subst}
use Rattle.std.specs.Global.{Box}
use Rattle.asp_model.specs.declared.outcome.ActivityReport.{ActivityReport}
use Rattle.asp_model.specs.Names.{Name}
use Rattle.asp_model.specs.Configuration.{Configuration}
use Rattle.asp_model.specs.Outcome.{activity_report}
use Rattle.asp_model.specs.Shapes.{activity_shape, status_shape, verdict_shape}
use Rattle.asp_model.specs.Status.{verdict_among, verdict_of}
use Rattle.code_table.specs.declared.code.Node.{Node}
use Rattle.def_paths.specs.Outcomes.{EndShape, end_of, whole_outcome_of}
use Rattle.run_ends.specs.Ends.{AreSnapshotsOf, IsEndOf}
use Rattle.step_activity.specs.declared.actor.Actor.{Actor}
use Rattle.step_ends.specs.Activities.{StandForSound}
use Rattle.step_ends.specs.Ends.{AreEndsBy}
use Rattle.step_ends.proofs.ReportLemmas.{all_closed, all_ends, map_map, reported_is, somebody, statuses_shown, values_closed}
use Rattle.step_ends.proofs.outcome.run_end_of.Goals as goal

pub code_of_all-requires : goal.code_of_all-requires
code_of_all-requires c = let r = c.requires.sound in record { some = somebody c.args.activities.entries c.args.futures r.0 r.1 }

pub ends_of-requires-clause-closed : goal.ends_of-requires-clause-closed
ends_of-requires-clause-closed c = let r = c.requires.sound in all_closed c.args.activities.entries c.args.futures r.0 r.1 c.len-count.ensures.ordered

pub ends_of-requires-clause-values : goal.ends_of-requires-clause-values
ends_of-requires-clause-values c = let r = c.requires.sound in values_closed c.args.activities.entries c.args.futures r.0 r.1

pub returns : goal.returns
returns c = record { end = λ k h. end k h; outcome = λ k h. (end k h).outcome ∙ reported_is k }
  where
    end : (k : Configuration) → StandForSound c.args.activities.entries c.args.futures k → IsEndOf (record { outcome = record { verdict = c.verdict_among.result; activities = c.in_ok-reports.reports }; states = c.in_ok-reports.states; futures = c.args.futures; code = c.in_ok-code.code }) (whole_outcome_of k)
    end k h =
        let xs : List (Name × Box Actor) = c.args.activities.entries in
        let rs : List ActivityReport = c.in_ok-reports.reports.items in
        let code : List Node = h.population.code in
        let es : List EndShape = map (end_of k) k.activities in
        let by : AreEndsBy code rs c.in_ok-reports.states.items es = c.in_ok-reports.ensures.ends code es (all_ends xs c.args.futures k h c.len-count.ensures.ordered) in
        let shown : map activity_shape rs ≡ map (activity_report k) k.activities = by.reports ∙ map_map (λ (e : EndShape). e.report) (end_of k) k.activities in
        let verdict : verdict_shape c.verdict_among.result ≡ verdict_of k =
        c.verdict_among.ensures ∙ ap (λ (ys : List ActivityReport). verdict_among (map (λ (a : ActivityReport). status_shape a.status) ys)) c.deref.ensures.value ∙ ap verdict_among (statuses_shown k rs shown) in
        record {
          outcome = (λ i. record { verdict = verdict i; activities = by.reports i });
          states = subst (λ (m : List Node). AreSnapshotsOf m c.in_ok-reports.states.items es) (sym (c.in_ok-code.ensures.code code h.population.actors)) by.states;
          futures = h.population.futures;
        }
