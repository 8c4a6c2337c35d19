use Rattle.std.proofs.Common.{◌∙◌, ap, subst}
use Rattle.asp_model.specs.Shapes.{marked_of, tree_of}
use Rattle.asp_model.specs.Term.{Tree, locations}
use Rattle.asp_check.proofs.PlaceLemmas.{readable_has_no_places}
use Rattle.law_frozen.specs.Frozen.{thawed_first}
use Rattle.run_resumes.specs.Resumed.{IsResumedEnd}
use Rattle.run_files.proofs.RunLemmas.{begins_in, end_of_file}
use Rattle.run_files.proofs.resumed.resume_file.Goals as goal

pub run_resumed-requires-clause-first : goal.run_resumed-requires-clause-first
run_resumed-requires-clause-first g c κs within =
    begins_in (marked_of c.args.program.now.program.root) c.args.bytes.now c.args.settings.budget c.in_ok-made.made.0
    c.in_ok-made.made.1 c.in_ok-made.ensures.made

pub run_resumed-requires-clause-bare : goal.run_resumed-requires-clause-bare
run_resumed-requires-clause-bare g c κs within =
    ap locations c.in_ok-made.ensures.made.runs
    ∙ readable_has_no_places (tree_of c.args.program.now.program.root) c.args.program.now.readable

pub returns-clause-resumed : goal.returns-clause-resumed
returns-clause-resumed g c =
    let program = c.args.program.now in
    let made = c.in_ok-made.ensures.made in
    let budget = c.args.settings.budget in
    let x = thawed_first made.frozen in
    let end = subst (λ (t : Tree). IsResumedEnd t x budget c.in_ok-end.end) made.runs
    (c.in_ok-end.ensures.end x made.begins) in
    end_of_file (marked_of program.program.root) c.args.bytes.now budget c.in_ok-made.made.0 c.in_ok-made.made.1 made
    program.checked c.in_ok-end.end end
