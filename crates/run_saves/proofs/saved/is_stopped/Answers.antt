use Rattle.std.proofs.Common.{◌∙◌, ap}
use Rattle.run_saves.specs.Saved.{is_budget}
use Rattle.run_saves.proofs.saved.is_stopped.Goals as goal

pub returns : goal.returns
returns g c = record { stopped = λ s is. c.is_budget.ensures ∙ ap is_budget (c.verdict.ensures.verdict s is) }
