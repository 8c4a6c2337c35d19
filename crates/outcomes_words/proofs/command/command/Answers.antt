use Rattle.std.proofs.Common.{◌∙◌, ap}
use Rattle.std.proofs.lemmas.Result.{IfOk-weaker}
use Rattle.clap.specs.Simple.{App, with_rule}
use Rattle.outcomes_words.specs.Words.{file_rule, with_ends, with_options}
use Rattle.outcomes_words.proofs.command.command.Goals as goal

pub returns : goal.returns
returns c = IfOk-weaker c.with_ends.result _ _
    (λ r h. h ∙ ap with_ends (c.in_ok-command-2.ensures ∙ ap with_options (c.in_ok-command.ensures ∙ ap (λ (a : App). with_rule a file_rule) c.bare.ensures)))
    c.with_ends.ensures
