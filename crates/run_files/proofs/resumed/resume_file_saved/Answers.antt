use Rattle.asp_model.specs.Shapes.{marked_of}
use Rattle.law_frozen.specs.Frozen.{thawed_first}
use Rattle.run_files.proofs.RunLemmas.{begins_in, left_of_file}
use Rattle.run_files.proofs.resumed.resume_file_saved.Goals as goal

pub run_saved_again-requires-clause-first : goal.run_saved_again-requires-clause-first
run_saved_again-requires-clause-first g c κs within =
    begins_in (marked_of c.args.program.now.program.root) c.args.bytes.now c.args.settings.budget c.in_ok-made.made.0
    c.in_ok-made.made.1 c.in_ok-made.ensures.made

pub returns-clause-resumed : goal.returns-clause-resumed
returns-clause-resumed g c =
    let program = c.args.program.now in
    let made = c.in_ok-made.ensures.made in
    left_of_file (marked_of program.program.root) c.args.bytes.now c.args.settings.budget c.in_ok-made.made.0
    c.in_ok-made.made.1 made program.checked c.in_ok-left.left
    (c.in_ok-left.ensures.saved (thawed_first made.frozen) made.begins)
