use Rattle.std.proofs.Common.{◌≡◌, ◌∙◌, ap}
use Rattle.std.proofs.lemmas.Result.{IfOk-weaker}
use Rattle.asp_model.specs.declared.outcome.Lists.{Lists}
use Rattle.asp_model.specs.Outcome.{lists_in}
use Rattle.asp_model.specs.Replay.{lists_of}
use Rattle.asp_model.specs.Shapes.{lists_shape, outcome_shape}
use Rattle.replay_offers.proofs.RunLemmas.{lists_shown}
use Rattle.replay_offers.proofs.replays.logs_of.Goals as goal

pub returns : goal.returns
returns c = record {
  lists = λ t d r. IfOk-weaker c.lists_in.result (λ (l : Lists). lists_shape l ≡ lists_in (outcome_shape c.in_ok-shown_by.field-0)) (λ (l : Lists). lists_shape l ≡ lists_of d)
      (λ l p. p ∙ ap lists_in (c.in_ok-shown_by.ensures.outcome t d r) ∙ lists_shown d) c.lists_in.ensures.lists;
}
