use Rattle.std.proofs.Common.{◌≡◌, [], map, Some, None, sym, subst}
use Rattle.asp_model.specs.Shapes.{entry_shape, tree_of}
use Rattle.def_journals.specs.Journals.{begun}
use Rattle.trace_check.specs.Checks.{AreRedone}
use Rattle.trace_check.proofs.check.check_trace.Goals as goal

pub redo_all-requires : goal.redo_all-requires
redo_all-requires c = record { begun = (tree_of c.args.program.now.program.root, c.args.budget, c.in_ok-run.ensures.begun) }

pub finish-requires : goal.finish-requires
finish-requires c =
    let t = tree_of c.args.program.now.program.root in
    let es = map entry_shape c.args.entries.now in
    let done = subst (AreRedone c.redo_all.new.run t c.args.budget es) c.in-None.is (c.in_ok-refused.ensures.redone t c.args.budget c.in_ok-run.ensures.begun) in
    record { run = (t, c.args.budget, es, done.0, done.1) }

pub returns-in-Some-clause-stop : goal.returns-in-Some-clause-stop
returns-in-Some-clause-stop c =
    let t = tree_of c.args.program.now.program.root in
    let es = map entry_shape c.args.entries.now in
    subst (AreRedone c.redo_all.new.run t c.args.budget es) c.in-Some.is (c.in_ok-refused.ensures.redone t c.args.budget c.in_ok-run.ensures.begun)

pub returns-in-None : goal.returns-in-None
returns-in-None c =
    let t = tree_of c.args.program.now.program.root in
    let es = map entry_shape c.args.entries.now in
    let done = subst (AreRedone c.redo_all.new.run t c.args.budget es) c.in-None.is (c.in_ok-refused.ensures.redone t c.args.budget c.in_ok-run.ensures.begun) in
    record { checked = c.finish.ensures.checked t c.args.budget es done.0 done.1; stop = c.finish.ensures.stop t c.args.budget es done.0 done.1 }
