use Rattle.std.proofs.Common.{◌∙◌, ◌≡◌, ap}
use Rattle.std.proofs.lemmas.Result.{IfOk-weaker}
use Rattle.clap.specs.Walk.{Rule}
use Rattle.clap.specs.Simple.{App, with_rule}
use Rattle.command_line.proofs.command.with_tasks.Goals as goal

more : (a b : App) (r : Rule) → a ≡ b → with_rule a r ≡ with_rule b r
more a b r e = ap (λ (x : App). with_rule x r) e

pub returns : goal.returns
returns c = IfOk-weaker c.with_option-3.result _ _
    (λ r h. h ∙ more _ _ _ (c.in_ok-command-5.ensures ∙ more _ _ _ (c.in_ok-command-4.ensures ∙ more _ _ _ (c.in_ok-command-3.ensures
    ∙ more _ _ _ (c.in_ok-command-2.ensures ∙ more _ _ _ c.in_ok-command.ensures)))))
    c.with_option-3.ensures
