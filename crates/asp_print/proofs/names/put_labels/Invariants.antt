use Rattle.std.proofs.Common.{◌≡◌, ◌++◌, map, drop}
use Rattle.std.specs.Prelude.{string_bytes}
use Rattle.syntax_tokens.specs.declared.token.Token.TheVariants as tokens
use Rattle.asp_print.specs.Tokens.{between, led_by}
use Rattle.asp_print.specs.Parts.{written, lead_tokens, label_piece}
use Rattle.asp_print.proofs.names.put_labels.Given as goal

abbrev pub invariant-loop-label : goal.invariant-loop-label
invariant-loop-label l = string_bytes l.text ++ written (led_by (lead_tokens l.lead) tokens.Comma (map label_piece (drop l.label-index l.labels))) ≡ string_bytes l.initial.text ++ written (between tokens.Comma (map label_piece l.labels))
