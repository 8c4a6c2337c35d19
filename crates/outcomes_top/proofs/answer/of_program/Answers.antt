use Rattle.std.proofs.Common.{List, Option, IfErr, IfOk, map, sym, subst}
use Rattle.asp_model.specs.Term.{Tree}
use Rattle.asp_top.specs.Ready.{text_in}
use Rattle.outcome_search.specs.Ends.{run_logs}
use Rattle.outcome_search.specs.declared.runs.EndedRun.{EndedRun}
use Rattle.outcomes_words.specs.Shapes.{task_shape}
use Rattle.outcomes_words.specs.declared.task.Choice.{Choice}
use Rattle.replay_offers.specs.Programs.{tree_in}
use Rattle.outcomes_top.specs.Correct.{Found, Tells}
use Rattle.outcomes_top.specs.Surveys.{HaltsAt, IsChosen, IsSurvey, TellsOf}
use Rattle.outcomes_top.proofs.FamilyLemmas.{halts_one, tells_one}
use Rattle.outcomes_top.proofs.answer.of_program.Goals as goal

pub returns-in-None-clause-answer : goal.returns-in-None-clause-answer
returns-in-None-clause-answer g c =
    let own : Tree = tree_in c.in_ok-family.family.runs in
    let text = text_in c.in_ok-all-in-None.field-0 in
    let status = c.in_ok-all-in-None.field-0.status in
    let f : Found own = record {
      by_classes = c.in_ok-family.family.by_classes;
      whole = c.in_ok-family.family.whole;
      ends = map run_logs c.in_ok-family.family.ends.items;
      family = c.in_ok-family.ensures.family;
    } in
    let chosen : IsChosen (task_shape c.args.task.now) own (map run_logs c.args.given.items) f = record { ends = c.in_ok-family.ensures.chosen; orders = c.in_ok-family.ensures.orders } in
    let survey : IsSurvey c.args.task.now.depth own f.ends c.in_ok-survey.survey = subst (λ (xs : List EndedRun). IsSurvey c.args.task.now.depth own (map run_logs xs) c.in_ok-survey.survey) c.deref.ensures.value c.in_ok-survey.ensures.survey in
    subst (λ (t : Tree). TellsOf (task_shape c.args.task.now) t (map run_logs c.args.given.items) text status) c.in_ok-family.ensures.tree
    (f, chosen, subst (λ (o : Option Choice). Tells c.args.task.now.depth own f.whole f.ends o text status) (sym c.in-None.is) (c.in_ok-all-in-None.ensures.all c.args.task.now.depth survey))

pub returns : goal.returns
returns g c =
    let own : Tree = tree_in c.in_ok-family.family.runs in
    let task = task_shape c.args.task.now in
    let given = map run_logs c.args.given.items in
    let f : Found own = record {
      by_classes = c.in_ok-family.family.by_classes;
      whole = c.in_ok-family.family.whole;
      ends = map run_logs c.in_ok-family.family.ends.items;
      family = c.in_ok-family.ensures.family;
    } in
    let chosen : IsChosen (task_shape c.args.task.now) own (map run_logs c.args.given.items) f = record { ends = c.in_ok-family.ensures.chosen; orders = c.in_ok-family.ensures.orders } in
    record {
      answer = subst (λ (t : Tree). IfOk c.one.result (λ p. TellsOf task t given (text_in p) p.status)) c.in_ok-family.ensures.tree
          (tells_one task own given f c.in-Some.choice c.one.result chosen c.in-Some.is c.one.ensures.answer);
      halt = subst (λ (t : Tree). IfErr c.one.result (HaltsAt task t given)) c.in_ok-family.ensures.tree
          (halts_one task own given f c.in-Some.choice c.one.result chosen c.in-Some.is c.one.ensures.halt);
    }
