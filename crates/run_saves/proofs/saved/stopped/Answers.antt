use Rattle.std.proofs.Common.{◌≡◌, IfOk, map, subst}
use Rattle.std.specs.Prelude.{string_bytes}
use Rattle.std.specs.List.{concat}
use Rattle.asp_model.specs.declared.term.Program.{Program}
use Rattle.asp_model.specs.Shapes.{marked_of}
use Rattle.asp_core.specs.Frozen.{first_of}
use Rattle.law_frozen.specs.Frozen.{frozen_of}
use Rattle.checkpoint_text.specs.Lines.{checkpoint_text}
use Rattle.checkpoint_runs.specs.Saved.{program_text}
use Rattle.run_saves.proofs.saved.stopped.Goals as goal

pub returns : goal.returns
returns g c = record {
  text = λ s is.
      subst (λ (p : Program). IfOk c.write_checkpoint.result (λ v. concat (map string_bytes v.items) ≡ checkpoint_text (program_text (marked_of p.root)) (frozen_of s.names s.configuration))) c.program.ensures.program
      (c.write_checkpoint.ensures.text (first_of s) (c.in_ok-frozen.ensures.frozen s is));
}
