use Rattle.asp_model.specs.Shapes.{marked_of}
use Rattle.checkpoint_runs.specs.Saved.{activity_lines, head_lines, program_text}
use Rattle.checkpoint_runs.proofs.LineLemmas.{lines_onward}
use Rattle.checkpoint_runs.proofs.checkpoints.put_frozen.Goals as goal

pub returns-in_ok-put_taken-in-Ok : goal.returns-in_ok-put_taken-in-Ok
returns-in_ok-put_taken-in-Ok c = record {
  adds = λ x h. lines_onward c.args.pieces.now.items (head_lines (program_text (marked_of c.args.program.now.root)) x) (activity_lines x.configuration x.names)
      c.put_head.new.pieces.items c.put_taken.new.pieces.items (c.in-Ok.ensures.adds x h) (c.in_ok-put_taken-in-Ok.ensures.adds x h);
}
