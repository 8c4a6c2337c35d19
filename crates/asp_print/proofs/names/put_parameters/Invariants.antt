use Rattle.std.proofs.Common.{◌≡◌, [], ◌∷◌, ◌++◌, map, drop}
use Rattle.std.specs.Prelude.{string_bytes}
use Rattle.syntax_tokens.specs.declared.token.Token.TheVariants as tokens
use Rattle.asp_print.specs.Tokens.{led_by}
use Rattle.asp_print.specs.Parts.{written, name_piece}
use Rattle.asp_print.proofs.names.put_parameters.Given as goal

abbrev pub invariant-loop-parameter : goal.invariant-loop-parameter
invariant-loop-parameter l = string_bytes l.text ++ written (led_by (tokens.Comma ∷ []) tokens.Comma (map name_piece (drop l.parameter-index l.parameters))) ≡ string_bytes l.initial.text ++ written (led_by (tokens.Comma ∷ []) tokens.Comma (map name_piece l.parameters))
