use Rattle.std.proofs.Common.{◌≡◌, [], ◌∷◌, ◌++◌, map, drop}
use Rattle.std.specs.Prelude.{string_bytes}
use Rattle.syntax_tokens.specs.declared.token.Token.TheVariants as tokens
use Rattle.asp_print.specs.Tokens.{between, led_by, method_part}
use Rattle.asp_print.specs.Parts.{written, lead_tokens, point_token, field_piece, method_piece, term_tokens}
use Rattle.asp_print.proofs.terms.+print.Given as goal

abbrev pub invariant-print_fields-loop-label : goal.invariant-print_fields-loop-label
invariant-print_fields-loop-label l = string_bytes l.text ++ written (led_by (lead_tokens l.lead) tokens.Comma (map field_piece (drop l.label-index l.fields))) ≡ string_bytes l.initial.text ++ written (between tokens.Comma (map field_piece l.fields))

abbrev pub invariant-print_methods-loop-method : goal.invariant-print_methods-loop-method
invariant-print_methods-loop-method l = string_bytes l.text ++ written (led_by (point_token l.lead ∷ []) tokens.Comma (map method_piece (drop l.method-index l.methods))) ≡ string_bytes l.initial.text ++ written (method_part (map method_piece l.methods))

abbrev pub invariant-print_all-loop-term : goal.invariant-print_all-loop-term
invariant-print_all-loop-term l = string_bytes l.text ++ written (led_by (lead_tokens l.lead) (point_token l.point) (map term_tokens (drop l.term-index l.terms))) ≡ string_bytes l.initial.text ++ written (between (point_token l.point) (map term_tokens l.terms))
