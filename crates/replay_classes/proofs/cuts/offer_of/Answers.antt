use Rattle.std.proofs.Common.{◌∙◌, ◌++◌, ◌∷◌, [], ap}
use Rattle.replay_classes.specs.Sendings.{logs_from}
use Rattle.replay_classes.proofs.SendingLemmas.{sent_last}
use Rattle.replay_classes.proofs.cuts.offer_of.Goals as goal

pub returns : goal.returns
returns c = record {
  logs = λ q κ.
      c.in_ok-rows_of.ensures.logs q κ
      ∙ ap (λ ss. logs_from ss q κ) (c.deref.ensures.value ∙ c.in_ok-push.ensures.items ∙ (λ i. c.in_ok-all.ensures.same i ++ c.in_ok-copy_of.ensures.same i ∷ []))
      ∙ sent_last c.args.sendings.now c.args.next.now q κ;
}
