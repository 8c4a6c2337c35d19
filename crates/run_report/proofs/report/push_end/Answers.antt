use Rattle.std.proofs.Common.{◌≡◌, List, ℕ, ◌++◌, ◌∙◌, ap, append_assoc}
use Rattle.std.proofs.lemmas.Result.{on_ok_weaker}
use Rattle.asp_model.specs.declared.outcome.ActivityReport.{ActivityReport}
use Rattle.asp_model.specs.Report.{activity_lines}
use Rattle.asp_model.specs.Shapes.{activity_shape}
use Rattle.def_paths.specs.Outcomes.{lines_to}
use Rattle.run_report.specs.Ends.{lines_at, states_at}
use Rattle.run_report.proofs.EndLemmas.{one_end, same_activities}
use Rattle.run_report.proofs.report.push_end.Goals as goal

pub returns : goal.returns
returns c = λ o h.
    let before : List (List ℕ) = c.args.lines.now.items in
    let x : ActivityReport = c.index.result.now in
    let states : List (List ℕ) = states_at c.args.depth o c.args.number in
    let both : activity_lines (activity_shape x) ++ states ≡ lines_at c.args.depth o c.args.number = one_end c.args.end.now.outcome.activities.items o.ends c.args.number x (lines_to c.args.depth o.futures) (same_activities c.args.end.now o h) c.requires.within c.index.ensures in
    on_ok_weaker c.push_state.result
    (λ e. e
    ∙ ap (λ (l : List (List ℕ)). l ++ states) c.in_ok-push_activity.ensures
    ∙ append_assoc before (activity_lines (activity_shape x)) states
    ∙ ap (λ (l : List (List ℕ)). before ++ l) both)
    (c.push_state.ensures o h)
