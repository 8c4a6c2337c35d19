use Rattle.std.proofs.Common.{◌∙◌, ap}
use Rattle.asp_model.specs.Replay.{log_in}
use Rattle.asp_model.specs.Shapes.{lists_shape}
use Rattle.asp_model.specs.Step.{reception_at}
use Rattle.run_waits.proofs.cuts.entries.next_entry.Goals as goal

pub returns : goal.returns
returns c = record {
  next = λ k n pop has there.
      c.entry_at.ensures.entry c.args.population.now.roster n pop.roster c.requires.numbered has
      ∙ ap (reception_at (log_in (lists_shape c.args.lists.now) n)) (c.logged.ensures.logged k n pop has there);
}
