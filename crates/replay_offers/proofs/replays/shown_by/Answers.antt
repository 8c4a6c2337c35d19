use Rattle.std.proofs.Common.{◌∙◌, ap}
use Rattle.asp_model.specs.Shapes.{outcome_shape}
use Rattle.replay_offers.proofs.replays.shown_by.Goals as goal

pub returns : goal.returns
returns c = record { outcome = λ t d r. ap outcome_shape c.into_outcome.ensures.outcome ∙ c.in_ok-end.ensures.outcome t d r }
