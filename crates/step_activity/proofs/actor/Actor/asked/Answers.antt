use Rattle.asp_model.specs.Contraction.{contract}
use Rattle.step_activity.specs.Asking.{asked_shape}
use Rattle.step_activity.proofs.RedexLemmas.{asked_so, is_at}
use Rattle.step_activity.proofs.actor.Actor.asked.Goals as goal

pub asks-requires-clause-stands : goal.asks-requires-clause-stands
asks-requires-clause-stands c = λ a h. is_at a c.in_ok-standing.field-0 c.in-Redex.redex c.in-Redex.is (c.in_ok-standing.ensures.standing a h)

pub returns-in-Redex-clause-asked : goal.returns-in-Redex-clause-asked
returns-in-Redex-clause-asked c = λ a cs r y h e is. asked_so (asked_shape c.asks.result) (contract a.store r) y (c.asks.ensures.asked a cs r h e) is
