use Rattle.std.proofs.Common.{refl, subst}
use Rattle.asp_explain.specs.Shapes.{IsWanted, task_shape}
use Rattle.asp_explain.specs.Seen.{bytes_of, outside_between}
use Rattle.asp_explain.proofs.EndsLemmas.{answers_task, stops_task, stops_words}
use Rattle.asp_explain.proofs.answer.answer_of.Goals as goal

pub returns-in-Ok-Told-clause-answer : goal.returns-in-Ok-Told-clause-answer
returns-in-Ok-Told-clause-answer g c =
    let words = bytes_of c.args.words.now in
    let o = outside_between g.S.Source.told c.args.source.now c.of_task.new.source in
    answers_task words o (task_shape c.in-Ok-Told.task) c.of_task.result (subst (IsWanted words) c.in-Ok-Told.field-0-is c.in-Ok-Told.ensures.wanted) c.of_task.ensures.answer

pub returns-in-Ok-Told-clause-stop : goal.returns-in-Ok-Told-clause-stop
returns-in-Ok-Told-clause-stop g c =
    let words = bytes_of c.args.words.now in
    let o = outside_between g.S.Source.told c.args.source.now c.of_task.new.source in
    stops_task words o (task_shape c.in-Ok-Told.task) c.of_task.result (subst (IsWanted words) c.in-Ok-Told.field-0-is c.in-Ok-Told.ensures.wanted) c.of_task.ensures.stop

pub returns-in-Err-clause-stop : goal.returns-in-Err-clause-stop
returns-in-Err-clause-stop g c =
    let o = outside_between g.S.Source.told c.args.source.now c.args.source.now in
    stops_words (bytes_of c.args.words.now) o c.in-Err.stop refl c.in-Err.ensures.stop
