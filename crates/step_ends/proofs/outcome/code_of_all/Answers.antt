use Rattle.std.proofs.Common.{◌∙◌, ap}
use Rattle.std.proofs.lemmas.Result.{IfOk-weaker}
use Rattle.step_activity.specs.Actors.{code_of}
use Rattle.step_ends.proofs.ReportLemmas.{unboxed}
use Rattle.step_ends.proofs.outcome.code_of_all.Goals as goal

pub returns : goal.returns
returns c = record {
  code = λ k runs. IfOk-weaker c.try_clone.result _ _ (λ x e. e ∙ c.code.ensures.code ∙ ap code_of c.as_ref.ensures ∙ runs c.in-Some._name.now c.in-Some.actor.now.value (ap unboxed c.in-Some.ensures.value)) c.try_clone.ensures;
}
