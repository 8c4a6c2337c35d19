use Rattle.std.proofs.Common.{map, take}
use Rattle.outcome_search.specs.Ends.{run_logs}
use Rattle.replay_offers.specs.Programs.{tree_in}
use Rattle.outcomes_top.specs.Surveys.{IsSurvey}
use Rattle.outcomes_top.proofs.survey.survey_of.Given as goal

abbrev pub invariant-loop-number : goal.invariant-loop-number
invariant-loop-number l = IsSurvey l.depth (tree_in l.runs) (map run_logs (take l.number l.ends)) l.survey
