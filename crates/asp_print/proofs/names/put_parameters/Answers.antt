use Rattle.std.proofs.Common.{[], ◌∷◌, ◌∙◌}
use Rattle.std.specs.Prelude.{string_bytes}
use Rattle.syntax_tokens.specs.declared.token.Token.TheVariants as tokens
use Rattle.std.proofs.Common.{arith}
use Rattle.asp_print.specs.Parts.{name_piece}
use Rattle.asp_print.proofs.WritingLemmas.{led_more}
use Rattle.asp_print.proofs.names.put_parameters.Goals as goal

pub loop-parameter-preserved : goal.loop-parameter-preserved
loop-parameter-preserved c =
    led_more name_piece (tokens.Comma ∷ []) tokens.Comma c.args.parameters.now c.loop-parameter.parameter-index c.parameter-item.result
    (string_bytes c.loop-parameter.text) (string_bytes c.put_point.new.text) (string_bytes c.put_name.new.text) (omega arith) c.parameter-item.is c.in_ok-put_point.ensures c.in_ok-put_name.ensures
    ∙ c.loop-parameter.invariant
