use Rattle.std.proofs.Common.{◌∙◌, ◌≡◌, refl}
use Rattle.std.proofs.lemmas.Result.{IfOk-weaker}
use Rattle.clap.specs.Walk.{Rule}
use Rattle.clap.specs.Simple.{App, with_rule}
use Rattle.asp_explain.proofs.command.with_options.Goals as goal

both : (a b : App) (r s : Rule) → a ≡ b → r ≡ s → with_rule a r ≡ with_rule b s
both a b r s e h = λ i. with_rule (e i) (h i)

pub returns : goal.returns
returns c = IfOk-weaker c.with_arg-7.result _ _
    (λ r h. h ∙ both _ _ _ _ (c.in_ok-command-6.ensures ∙ both _ _ _ _ (c.in_ok-command-5.ensures ∙ both _ _ _ _ (c.in_ok-command-4.ensures
    ∙ both _ _ _ _ (c.in_ok-command-3.ensures ∙ both _ _ _ _ (c.in_ok-command-2.ensures ∙ both _ _ _ _ (c.in_ok-command.ensures
    ∙ both _ _ _ _ refl c.flag.ensures.rule) c.option.ensures.rule) c.option-2.ensures.rule) c.option-3.ensures.rule) c.pair.ensures.rule)
    c.option-4.ensures.rule) c.flag-2.ensures.rule)
    c.with_arg-7.ensures
