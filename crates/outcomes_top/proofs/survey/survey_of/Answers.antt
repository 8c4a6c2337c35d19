use Rattle.std.proofs.Common.{◌≤◌, ◌<◌, List, ℕ, length, map, take, rules, sym, subst, arith}
use Rattle.asp_model.specs.Term.{Tree}
use Rattle.law_families.specs.Families.{RunLogs}
use Rattle.outcome_search.specs.Ends.{run_logs}
use Rattle.outcome_search.specs.declared.runs.EndedRun.{EndedRun}
use Rattle.replay_offers.specs.Programs.{tree_in}
use Rattle.outcomes_text.specs.Tallies.{AreWithin}
use Rattle.outcomes_top.specs.Surveys.{IsOneMore, IsSurvey}
use Rattle.outcomes_top.proofs.FamilyLemmas.{has_at, length_front, logs_more, logs_whole, survey_more}
use Rattle.outcomes_top.proofs.survey.survey_of.Goals as goal

pub loop-number-init : goal.loop-number-init
loop-number-init c = c.none-survey.ensures.none c.args.depth (tree_in c.args.runs.now)

pub add-requires-clause-end : goal.add-requires-clause-end
add-requires-clause-end c = c.requires.ends (run_logs c.end_at-end.result.now) (has_at c.args.ends.now c.loop-number.number c.end_at-end.result.now c.end_at-end.ensures.end)

pub add-requires-clause-within : goal.add-requires-clause-within
add-requires-clause-within c =
    let within : c.loop-number.number < length c.args.ends.now = search rules in
    subst (λ (n : ℕ). AreWithin n c.loop-number.survey.tally) (length_front c.args.ends.now c.loop-number.number (omega (arith, within))) c.loop-number.invariant.within

pub loop-number-preserved : goal.loop-number-preserved
loop-number-preserved c =
    let within : c.loop-number.number < length c.args.ends.now = search rules in
    let t : Tree = tree_in c.args.runs.now in
    let front : List RunLogs = map run_logs (take c.loop-number.number c.args.ends.now) in
    let x : EndedRun = c.end_at-end.result.now in
    let more : IsOneMore c.args.depth t (length front) (run_logs x) c.loop-number.survey c.add.new.self =
    subst (λ (n : ℕ). IsOneMore c.args.depth t n (run_logs x) c.loop-number.survey c.add.new.self) (sym (length_front c.args.ends.now c.loop-number.number (omega (arith, within)))) c.in_ok-add.ensures.more in
    subst (λ (xs : List RunLogs). IsSurvey c.args.depth t xs c.add.new.self) (sym (logs_more c.args.ends.now c.loop-number.number x c.end_at-end.ensures.end))
    (survey_more c.args.depth t front (run_logs x) c.loop-number.survey c.add.new.self c.loop-number.invariant more)

pub returns : goal.returns
returns c =
    let past : length c.args.ends.now ≤ c.loop-number.number = search rules in
    record { survey = subst (λ (xs : List RunLogs). IsSurvey c.args.depth (tree_in c.args.runs.now) xs c.loop-number.survey) (logs_whole c.args.ends.now c.loop-number.number past) c.loop-number.invariant }
