use Rattle.std.proofs.Common.{◌≡◌, Option, Some, subst, sym}
use Rattle.asp_top.specs.Programs.{AsksInTurn}
use Rattle.asp_top.specs.Seen.{bytes_of, outside_between}
use Rattle.outcomes_words.specs.Shapes.{IsWanted, IsWantedWithin, task_shape}
use Rattle.outcomes_words.specs.Words.{TaskShape, task_of}
use Rattle.outcomes_top.specs.Endings.{files_of}
use Rattle.outcomes_top.proofs.EndsLemmas.{answers_task, halts_task}
use Rattle.outcomes_top.proofs.answer.answer_of.Goals as goal

pub of_task-requires : goal.of_task-requires
of_task-requires g c = record { within = subst IsWantedWithin c.in-Ok-Outcomes.field-0-is c.in-Ok-Outcomes.ensures.within }

pub returns-in-Ok-Outcomes-clause-answer : goal.returns-in-Ok-Outcomes-clause-answer
returns-in-Ok-Outcomes-clause-answer g c =
    let words = bytes_of c.args.words.now in
    let o = outside_between g.S.Source.told c.args.source.now c.of_task.new.source in
    answers_task words o (task_shape c.in-Ok-Outcomes.task) c.of_task.result (subst (IsWanted words) c.in-Ok-Outcomes.field-0-is c.in-Ok-Outcomes.ensures.wanted) c.of_task.ensures.answer

pub returns-in-Ok-Outcomes-clause-halt : goal.returns-in-Ok-Outcomes-clause-halt
returns-in-Ok-Outcomes-clause-halt g c =
    let words = bytes_of c.args.words.now in
    let o = outside_between g.S.Source.told c.args.source.now c.of_task.new.source in
    halts_task words o (task_shape c.in-Ok-Outcomes.task) c.of_task.result (subst (IsWanted words) c.in-Ok-Outcomes.field-0-is c.in-Ok-Outcomes.ensures.wanted) c.of_task.ensures.halt

pub returns-in-Ok-Outcomes-clause-reads : goal.returns-in-Ok-Outcomes-clause-reads
returns-in-Ok-Outcomes-clause-reads g c =
    let words = bytes_of c.args.words.now in
    let o = outside_between g.S.Source.told c.args.source.now c.of_task.new.source in
    let asked : task_of words ≡ Some (task_shape c.in-Ok-Outcomes.task) = subst (IsWanted words) c.in-Ok-Outcomes.field-0-is c.in-Ok-Outcomes.ensures.wanted in
    subst (λ (t : Option TaskShape). AsksInTurn o (files_of t)) (sym asked) c.of_task.ensures.reads
