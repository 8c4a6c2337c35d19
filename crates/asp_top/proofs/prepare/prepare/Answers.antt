use Rattle.std.proofs.Common.{Option, refl, sym, subst}
use Rattle.command_line.specs.Task.{TaskShape}
use Rattle.command_line.specs.Shapes.{task_shape}
use Rattle.asp_top.specs.Seen.{outside_between}
use Rattle.asp_top.specs.Programs.{AsksInTurn, files_in}
use Rattle.asp_top.proofs.AskLemmas.{in_turn_none}
use Rattle.asp_top.proofs.PrepareLemmas.{task_refused}
use Rattle.asp_top.proofs.prepare.prepare.Goals as goal

pub returns-clause-stop : goal.returns-clause-stop
returns-clause-stop g c =
    task_refused c.args.words.now (outside_between g.S.Source.told c.args.source.now c.prepare_task.new.source) (task_shape c.in_ok-task.task) c.prepare_task.result c.in_ok-task.ensures.ok c.prepare_task.ensures.stop

pub returns-in_err-task-clause-reads : goal.returns-in_err-task-clause-reads
returns-in_err-task-clause-reads g c = in_turn_none (outside_between g.S.Source.told c.args.source.now c.args.source.now) _ refl

pub returns-clause-reads : goal.returns-clause-reads
returns-clause-reads g c =
    let o = outside_between g.S.Source.told c.args.source.now c.prepare_task.new.source in
    subst (λ (t : Option TaskShape). AsksInTurn o (files_in t)) (sym c.in_ok-task.ensures.ok) c.prepare_task.ensures.reads
