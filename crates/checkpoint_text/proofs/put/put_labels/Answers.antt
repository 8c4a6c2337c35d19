use Rattle.std.proofs.Common.{◌∙◌, ◌++◌, arith, ap, sym}
use Rattle.std.specs.Prelude.{string_bytes}
use Rattle.asp_model.specs.declared.word.Label.{Label}
use Rattle.checkpoint_text.specs.Items.{Items, text_items}
use Rattle.checkpoint_text.specs.Writing.{words}
use Rattle.checkpoint_text.proofs.WritingLemmas.{list_mapped, list_over}
use Rattle.checkpoint_text.proofs.put.put_labels.Goals as goal

pub returns : goal.returns
returns c =
    let old = string_bytes c.args.text.now in
    record {
      adds = list_over (λ (l : Label). text_items l.text) c.args.labels.now c.loop-label.label-index old (string_bytes c.put_number.new.text) (string_bytes c.loop-label.text) (omega (arith, c.loop-label-test.false)) c.in_ok-put_number.ensures.adds c.loop-label.invariant
          ∙ ap (λ (ts : Items). old ++ words ts) (sym (list_mapped text_items (λ (l : Label). l.text) c.args.labels.now));
    }
