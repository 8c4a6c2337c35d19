use Rattle.std.proofs.Common.{◌∙◌, ap}
use Rattle.asp_model.specs.Configuration.{Configuration}
use Rattle.asp_model.specs.Outcome.{exit_status}
use Rattle.def_paths.specs.Outcomes.{whole_outcome_of}
use Rattle.outcome_search.specs.Ends.{run_logs}
use Rattle.replay_offers.specs.Programs.{tree_in}
use Rattle.outcomes_top.specs.Families.{end_of}
use Rattle.outcomes_top.proofs.answer.report_of.Goals as goal

pub returns-clause-report : goal.returns-clause-report
returns-clause-report c =
    let d : Configuration = end_of (tree_in c.args.runs.now) (run_logs c.args.end.now) in
    (c.in_ok-report_for.ensures.text (whole_outcome_of d) c.in_ok-run.ensures.end, c.in_ok-report_for.ensures.status ∙ ap exit_status c.in_ok-run.ensures.outcome)
