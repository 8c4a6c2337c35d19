use Rattle.std.proofs.Common.{◌∙◌}
use Rattle.std.specs.Prelude.{string_bytes}
use Rattle.syntax_tokens.specs.declared.token.Token.TheVariants as tokens
use Rattle.std.proofs.Common.{arith}
use Rattle.asp_print.specs.Parts.{lead_tokens, label_piece}
use Rattle.asp_print.proofs.WritingLemmas.{led_more}
use Rattle.asp_print.proofs.names.put_labels.Goals as goal

pub loop-label-preserved : goal.loop-label-preserved
loop-label-preserved c =
    led_more label_piece (lead_tokens c.loop-label.lead) tokens.Comma c.args.labels.now c.loop-label.label-index c.label-item.result
    (string_bytes c.loop-label.text) (string_bytes c.put_lead.new.text) (string_bytes c.put_name.new.text) (omega arith) c.label-item.is c.in_ok-put_lead.ensures c.in_ok-put_name.ensures
    ∙ c.loop-label.invariant
