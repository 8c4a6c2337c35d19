use Rattle.std.proofs.Common.{◌∙◌, ◌≡◌, ap}
use Rattle.std.proofs.lemmas.Result.{IfOk-weaker}
use Rattle.clap.specs.Walk.{Rule}
use Rattle.clap.specs.Simple.{App, with_rule}
use Rattle.outcomes_words.proofs.command.with_ends.Goals as goal

more : (a b : App) (r : Rule) → a ≡ b → with_rule a r ≡ with_rule b r
more a b r e = ap (λ (x : App). with_rule x r) e

pub returns : goal.returns
returns c = IfOk-weaker c.with_flag.result _ _ (λ r h. h ∙ more _ _ _ (c.in_ok-command-2.ensures ∙ more _ _ _ c.in_ok-command.ensures)) c.with_flag.ensures
