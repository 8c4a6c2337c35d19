-- Strategies stay those of labels.
use Rattle.std.proofs.Common.{◌≡◌, List, Some, None, sym, ap, ◌∙◌, subst, ⊎_elim}
use Rattle.asp_model.specs.Names.{Name, FutureShape}
use Rattle.asp_model.specs.Configuration.{Configuration, RequestShape}
use Rattle.asp_model.specs.Intent.{Effect}
use Rattle.asp_model.specs.Step.{with_effect}
use Rattle.update_policy.specs.Plans.{plan_shape, strategy_by}
use Rattle.law_steps.specs.Steps.{IsNewTo}
use Rattle.law_chases.proofs.FutureLemmas.{no_some, some_is}
use Rattle.law_steps.proofs.SoundLemmas.{came}
use Rattle.core_edges.specs.declared.edges.Edges.{Edges}
use Rattle.core_edges.specs.Labels.{AreByLabels}
use Rattle.core_edges.specs.Strategies.{IsLearned, strategy_in}

module _ {P : Type 0} (homes : List (FutureShape × Name)) (c : Configuration) (n : Name) (e : Effect) (old new : Edges P) (plan : new.plan ≡ old.plan) (labels : AreByLabels homes c old) where
  -- where no request is sent
  pub labels_stay : e.sent ≡ None → ((f : FutureShape) → strategy_in new f ≡ strategy_in old f) → AreByLabels homes (with_effect n e c) new
  labels_stay none stay m k r st out = ⊎_elim
      (λ before. stay r.future ∙ labels m k r before out ∙ ap (λ p. strategy_by (plan_shape p) r.label) (sym plan))
      (λ last. no_some (sym none ∙ last.is))
      (came c n e m k r st)

  -- where one is
  pub labels_learned : (z : Name × RequestShape) → e.sent ≡ Some z → IsNewTo c e → IsLearned z.1.future z.1.label old new → AreByLabels homes (with_effect n e c) new
  labels_learned z is fresh learned m k r st out = ⊎_elim
      (λ before. learned.others r.future (λ same. fresh.sent z is m k r before (sym same)) ∙ labels m k r before out ∙ ap (λ p. strategy_by (plan_shape p) r.label) (sym plan))
      (λ last.
      let same : r ≡ z.1 = last.request ∙ ap (λ q. q.1) (some_is (sym last.is ∙ is)) in
      subst (λ q. strategy_in new q.future ≡ strategy_by (plan_shape new.plan) q.label) (sym same) (learned.here ∙ ap (λ p. strategy_by (plan_shape p) z.1.label) (sym plan)))
      (came c n e m k r st)
