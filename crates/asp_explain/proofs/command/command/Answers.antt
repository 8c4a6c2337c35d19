use Rattle.std.proofs.Common.{◌∙◌, ap}
use Rattle.std.proofs.lemmas.Result.{IfOk-weaker}
use Rattle.asp_explain.specs.Words.{with_files, with_options}
use Rattle.asp_explain.proofs.command.command.Goals as goal

pub returns : goal.returns
returns c = IfOk-weaker c.with_options.result _ _
    (λ r h. h ∙ ap with_options (c.in_ok-command.ensures ∙ ap with_files c.bare.ensures))
    c.with_options.ensures
