use Rattle.std.proofs.Common.{IfErr, IfOk, subst, sym}
use Rattle.asp_explain.specs.declared.task.Task.{Task}
use Rattle.asp_explain.specs.Endings.{StopsTask, Tells}
use Rattle.asp_explain.specs.Refusals.{refusal_of}
use Rattle.asp_explain.specs.Seen.{outside_between}
use Rattle.asp_explain.specs.Shapes.{task_shape}
use Rattle.asp_explain.proofs.answer.of_task.Goals as goal

pub returns-in-File-clause-answer : goal.returns-in-File-clause-answer
returns-in-File-clause-answer g c =
    let o = outside_between g.S.Source.told c.args.source.now c.of_file.new.source in
    subst (λ (t : Task). IfOk c.of_file.result (λ a. Tells o (task_shape t) a.text.items a.status)) (sym c.in-File.is) c.of_file.ensures.answer

pub returns-in-File-clause-stop : goal.returns-in-File-clause-stop
returns-in-File-clause-stop g c =
    let o = outside_between g.S.Source.told c.args.source.now c.of_file.new.source in
    subst (λ (t : Task). IfErr c.of_file.result (λ s. StopsTask o (task_shape t) (refusal_of s))) (sym c.in-File.is) c.of_file.ensures.stop

pub returns-in-Until-clause-answer : goal.returns-in-Until-clause-answer
returns-in-Until-clause-answer g c =
    let o = outside_between g.S.Source.told c.args.source.now c.of_until.new.source in
    subst (λ (t : Task). IfOk c.of_until.result (λ a. Tells o (task_shape t) a.text.items a.status)) (sym c.in-Until.is) c.of_until.ensures.answer

pub returns-in-Until-clause-stop : goal.returns-in-Until-clause-stop
returns-in-Until-clause-stop g c =
    let o = outside_between g.S.Source.told c.args.source.now c.of_until.new.source in
    subst (λ (t : Task). IfErr c.of_until.result (λ s. StopsTask o (task_shape t) (refusal_of s))) (sym c.in-Until.is) c.of_until.ensures.stop

pub returns-in-Run-clause-answer : goal.returns-in-Run-clause-answer
returns-in-Run-clause-answer g c =
    let o = outside_between g.S.Source.told c.args.source.now c.of_run.new.source in
    subst (λ (t : Task). IfOk c.of_run.result (λ a. Tells o (task_shape t) a.text.items a.status)) (sym c.in-Run.is) c.of_run.ensures.answer

pub returns-in-Run-clause-stop : goal.returns-in-Run-clause-stop
returns-in-Run-clause-stop g c =
    let o = outside_between g.S.Source.told c.args.source.now c.of_run.new.source in
    subst (λ (t : Task). IfErr c.of_run.result (λ s. StopsTask o (task_shape t) (refusal_of s))) (sym c.in-Run.is) c.of_run.ensures.stop

pub returns-in-Events-clause-answer : goal.returns-in-Events-clause-answer
returns-in-Events-clause-answer g c =
    let o = outside_between g.S.Source.told c.args.source.now c.of_events.new.source in
    subst (λ (t : Task). IfOk c.of_events.result (λ a. Tells o (task_shape t) a.text.items a.status)) (sym c.in-Events.is) c.of_events.ensures.answer

pub returns-in-Events-clause-stop : goal.returns-in-Events-clause-stop
returns-in-Events-clause-stop g c =
    let o = outside_between g.S.Source.told c.args.source.now c.of_events.new.source in
    subst (λ (t : Task). IfErr c.of_events.result (λ s. StopsTask o (task_shape t) (refusal_of s))) (sym c.in-Events.is) c.of_events.ensures.stop

pub returns-in-Other-clause-answer : goal.returns-in-Other-clause-answer
returns-in-Other-clause-answer g c =
    let o = outside_between g.S.Source.told c.args.source.now c.of_other.new.source in
    subst (λ (t : Task). IfOk c.of_other.result (λ a. Tells o (task_shape t) a.text.items a.status)) (sym c.in-Other.is) c.of_other.ensures.answer

pub returns-in-Other-clause-stop : goal.returns-in-Other-clause-stop
returns-in-Other-clause-stop g c =
    let o = outside_between g.S.Source.told c.args.source.now c.of_other.new.source in
    subst (λ (t : Task). IfErr c.of_other.result (λ s. StopsTask o (task_shape t) (refusal_of s))) (sym c.in-Other.is) c.of_other.ensures.stop

pub returns-in-Picture-clause-answer : goal.returns-in-Picture-clause-answer
returns-in-Picture-clause-answer g c =
    let o = outside_between g.S.Source.told c.args.source.now c.of_picture.new.source in
    subst (λ (t : Task). IfOk c.of_picture.result (λ a. Tells o (task_shape t) a.text.items a.status)) (sym c.in-Picture.is) c.of_picture.ensures.answer

pub returns-in-Picture-clause-stop : goal.returns-in-Picture-clause-stop
returns-in-Picture-clause-stop g c =
    let o = outside_between g.S.Source.told c.args.source.now c.of_picture.new.source in
    subst (λ (t : Task). IfErr c.of_picture.result (λ s. StopsTask o (task_shape t) (refusal_of s))) (sym c.in-Picture.is) c.of_picture.ensures.stop
