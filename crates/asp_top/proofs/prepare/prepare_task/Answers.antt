use Rattle.std.proofs.Common.{[], refl, sym, subst}
use Rattle.std.specs.Prelude.{IfOk}
use Rattle.command_line.specs.declared.task.Task.{Task}
use Rattle.command_line.specs.Shapes.{task_shape}
use Rattle.asp_top.specs.Seen.{outside_between}
use Rattle.asp_top.specs.Programs.{AsksInTurn, files_of}
use Rattle.asp_top.specs.Ready.{IsReady}
use Rattle.asp_top.proofs.AskLemmas.{in_turn_none, in_turn_once}
use Rattle.asp_top.proofs.prepare.prepare_task.Goals as goal

pub returns-in-Run-clause-answer : goal.returns-in-Run-clause-answer
returns-in-Run-clause-answer g c =
    let o = outside_between g.S.Source.told c.args.source.now c.prepare_run.new.source in
    subst (λ (t : Task). IfOk c.prepare_run.result (IsReady o (task_shape t))) (sym c.in-Run.is) c.prepare_run.ensures.answer

pub returns-in-Replay-clause-answer : goal.returns-in-Replay-clause-answer
returns-in-Replay-clause-answer g c =
    let o = outside_between g.S.Source.told c.args.source.now c.prepare_replay.new.source in
    subst (λ (t : Task). IfOk c.prepare_replay.result (IsReady o (task_shape t))) (sym c.in-Replay.is) c.prepare_replay.ensures.answer

pub returns-in-Make-clause-answer : goal.returns-in-Make-clause-answer
returns-in-Make-clause-answer g c =
    let o = outside_between g.S.Source.told c.args.source.now c.args.source.now in
    subst (λ (t : Task). IfOk c.prepare_made.result (IsReady o (task_shape t))) (sym c.in-Make.is) (c.prepare_made.ensures.answer o)

pub returns-in-Run-clause-reads : goal.returns-in-Run-clause-reads
returns-in-Run-clause-reads g c =
    let o = outside_between g.S.Source.told c.args.source.now c.prepare_run.new.source in
    subst (λ (t : Task). AsksInTurn o (files_of (task_shape t))) (sym c.in-Run.is) (in_turn_once o _ [] c.prepare_run.ensures.asked)

pub returns-in-Rule-clause-answer : goal.returns-in-Rule-clause-answer
returns-in-Rule-clause-answer g c =
    let o = outside_between g.S.Source.told c.args.source.now c.prepare_ruled.new.source in
    subst (λ (t : Task). IfOk c.prepare_ruled.result (IsReady o (task_shape t))) (sym c.in-Rule.is) c.prepare_ruled.ensures.answer

pub returns-in-Rule-clause-reads : goal.returns-in-Rule-clause-reads
returns-in-Rule-clause-reads g c =
    let o = outside_between g.S.Source.told c.args.source.now c.prepare_ruled.new.source in
    subst (λ (t : Task). AsksInTurn o (files_of (task_shape t))) (sym c.in-Rule.is) (in_turn_once o _ [] c.prepare_ruled.ensures.asked)

pub returns-in-Journal-clause-answer : goal.returns-in-Journal-clause-answer
returns-in-Journal-clause-answer g c =
    let o = outside_between g.S.Source.told c.args.source.now c.prepare_journal.new.source in
    subst (λ (t : Task). IfOk c.prepare_journal.result (IsReady o (task_shape t))) (sym c.in-Journal.is) c.prepare_journal.ensures.answer

pub returns-in-Journal-clause-reads : goal.returns-in-Journal-clause-reads
returns-in-Journal-clause-reads g c =
    let o = outside_between g.S.Source.told c.args.source.now c.prepare_journal.new.source in
    subst (λ (t : Task). AsksInTurn o (files_of (task_shape t))) (sym c.in-Journal.is) (in_turn_once o _ [] c.prepare_journal.ensures.asked)

pub returns-in-Save-clause-answer : goal.returns-in-Save-clause-answer
returns-in-Save-clause-answer g c =
    let o = outside_between g.S.Source.told c.args.source.now c.prepare_save.new.source in
    subst (λ (t : Task). IfOk c.prepare_save.result (IsReady o (task_shape t))) (sym c.in-Save.is) c.prepare_save.ensures.answer

pub returns-in-Save-clause-reads : goal.returns-in-Save-clause-reads
returns-in-Save-clause-reads g c =
    let o = outside_between g.S.Source.told c.args.source.now c.prepare_save.new.source in
    subst (λ (t : Task). AsksInTurn o (files_of (task_shape t))) (sym c.in-Save.is) (in_turn_once o _ [] c.prepare_save.ensures.asked)

pub returns-in-Check-clause-reads : goal.returns-in-Check-clause-reads
returns-in-Check-clause-reads g c =
    let o = outside_between g.S.Source.told c.args.source.now c.prepare_check.new.source in
    subst (λ (t : Task). AsksInTurn o (files_of (task_shape t))) (sym c.in-Check.is) (in_turn_once o _ [] c.prepare_check.ensures.asked)

pub returns-in-Replay-clause-reads : goal.returns-in-Replay-clause-reads
returns-in-Replay-clause-reads g c =
    let o = outside_between g.S.Source.told c.args.source.now c.prepare_replay.new.source in
    subst (λ (t : Task). AsksInTurn o (files_of (task_shape t))) (sym c.in-Replay.is) c.prepare_replay.ensures.reads

pub returns-in-Make-clause-reads : goal.returns-in-Make-clause-reads
returns-in-Make-clause-reads g c =
    let o = outside_between g.S.Source.told c.args.source.now c.args.source.now in
    subst (λ (t : Task). AsksInTurn o (files_of (task_shape t))) (sym c.in-Make.is) (in_turn_none o [] refl)

pub returns-in-Compare-clause-answer : goal.returns-in-Compare-clause-answer
returns-in-Compare-clause-answer g c =
    let o = outside_between g.S.Source.told c.args.source.now c.prepare_compare.new.source in
    subst (λ (t : Task). IfOk c.prepare_compare.result (IsReady o (task_shape t))) (sym c.in-Compare.is) c.prepare_compare.ensures.answer

pub returns-in-Compare-clause-reads : goal.returns-in-Compare-clause-reads
returns-in-Compare-clause-reads g c =
    let o = outside_between g.S.Source.told c.args.source.now c.prepare_compare.new.source in
    subst (λ (t : Task). AsksInTurn o (files_of (task_shape t))) (sym c.in-Compare.is) c.prepare_compare.ensures.reads

pub returns-in-Trace-clause-answer : goal.returns-in-Trace-clause-answer
returns-in-Trace-clause-answer g c =
    let o = outside_between g.S.Source.told c.args.source.now c.prepare_trace.new.source in
    subst (λ (t : Task). IfOk c.prepare_trace.result (IsReady o (task_shape t))) (sym c.in-Trace.is) c.prepare_trace.ensures.answer

pub returns-in-Trace-clause-reads : goal.returns-in-Trace-clause-reads
returns-in-Trace-clause-reads g c =
    let o = outside_between g.S.Source.told c.args.source.now c.prepare_trace.new.source in
    subst (λ (t : Task). AsksInTurn o (files_of (task_shape t))) (sym c.in-Trace.is) c.prepare_trace.ensures.reads

pub returns-in-Resume-clause-answer : goal.returns-in-Resume-clause-answer
returns-in-Resume-clause-answer g c =
    let o = outside_between g.S.Source.told c.args.source.now c.prepare_resume.new.source in
    subst (λ (t : Task). IfOk c.prepare_resume.result (IsReady o (task_shape t))) (sym c.in-Resume.is) c.prepare_resume.ensures.answer

pub returns-in-Resume-clause-reads : goal.returns-in-Resume-clause-reads
returns-in-Resume-clause-reads g c =
    let o = outside_between g.S.Source.told c.args.source.now c.prepare_resume.new.source in
    subst (λ (t : Task). AsksInTurn o (files_of (task_shape t))) (sym c.in-Resume.is) c.prepare_resume.ensures.reads

pub returns-in-SaveAgain-clause-answer : goal.returns-in-SaveAgain-clause-answer
returns-in-SaveAgain-clause-answer g c =
    let o = outside_between g.S.Source.told c.args.source.now c.prepare_save_again.new.source in
    subst (λ (t : Task). IfOk c.prepare_save_again.result (IsReady o (task_shape t))) (sym c.in-SaveAgain.is) c.prepare_save_again.ensures.answer

pub returns-in-SaveAgain-clause-reads : goal.returns-in-SaveAgain-clause-reads
returns-in-SaveAgain-clause-reads g c =
    let o = outside_between g.S.Source.told c.args.source.now c.prepare_save_again.new.source in
    subst (λ (t : Task). AsksInTurn o (files_of (task_shape t))) (sym c.in-SaveAgain.is) c.prepare_save_again.ensures.reads
