use Rattle.std.proofs.Common.{◌∙◌, List, ℕ, ap}
use Rattle.std.specs.Prelude.{max}
use Rattle.asp_model.specs.Outcome.{exit_status}
use Rattle.def_paths.specs.Outcomes.{whole_outcome_of}
use Rattle.outcome_search.specs.Ends.{run_logs}
use Rattle.replay_offers.specs.Programs.{tree_in}
use Rattle.outcomes_text.specs.Outcomes.{with_end}
use Rattle.outcomes_top.specs.Families.{end_of}
use Rattle.outcomes_top.proofs.survey.Survey.add.Goals as goal

pub returns : goal.returns
returns c = record {
  more = record {
    tally = c.in_ok-add.ensures.counted ∙ ap (λ (t : List ℕ). with_end c.args.number t c.args.self.now.tally) (c.in_ok-text.ensures.seen (whole_outcome_of (end_of (tree_in c.args.runs.now) (run_logs c.args.end.now))) c.in_ok-run.ensures.end);
    within = c.in_ok-add.ensures.within;
    longest = c.longer-self.ensures ∙ ap (max c.args.self.now.longest) c.total_of.ensures.total;
    worst = c.worse-self.ensures ∙ ap (max c.args.self.now.worst) (c.exit_number.ensures.status ∙ ap exit_status c.in_ok-run.ensures.outcome);
  };
}
