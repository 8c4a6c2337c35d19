use Rattle.std.proofs.Common.{◌≡◌, ◌∙◌, ◌∷◌, ◌++◌, arith, ap, sym}
use Rattle.std.specs.Prelude.{string_bytes}
use Rattle.std.specs.Fmt.{decimal}
use Rattle.std.proofs.lemmas.Result.{on_ok_weaker}
use Rattle.code_table.proofs.TermTrees.{call_is}
use Rattle.checkpoint_text.specs.Items.{Items, label_behind, list_items, number_items, term_items, terms_items}
use Rattle.checkpoint_text.specs.Writing.{below_items, field_piece, method_piece, tree_items, words}
use Rattle.checkpoint_text.proofs.WritingLemmas.{list_over, onward}
use Rattle.checkpoint_text.proofs.ObjectWriting.{object_laid, terms_laid}
use Rattle.checkpoint_text.proofs.terms.+write.Goals as goal

pub put_terms-returns : goal.put_terms-returns
put_terms-returns t c =
    let old = string_bytes c.args.text.now in
    record {
      adds = list_over tree_items c.args.terms.now c.loop-term.term-index old (string_bytes c.put_number.new.text) (string_bytes c.loop-term.text) (omega (arith, c.loop-term-test.false)) c.in_ok-put_number.ensures.adds c.loop-term.invariant
          ∙ ap (λ (ts : Items). old ++ words ts) (sym (terms_laid c.args.terms.now));
    }

pub put_make-returns : goal.put_make-returns
put_make-returns t c =
    let old = string_bytes c.args.text.now in
    let fields = list_items field_piece c.args.fields.now in
    let methods = list_items method_piece c.args.methods.now in
    record {
      adds = on_ok_weaker c.put_methods.result
          (λ e. onward old (number_items 4) (fields ++ methods) c.in_ok-put_number.ensures.adds (onward (string_bytes c.put_number.new.text) fields methods c.in_ok-put_fields.ensures.adds e)
          ∙ ap (λ (ts : Items). old ++ words ts) (sym (object_laid c.args.fields.now c.args.methods.now)))
          c.put_methods.ensures.adds;
    }

pub put_node-returns-in-Call : goal.put_node-returns-in-Call
put_node-returns-in-Call t c =
    let old = string_bytes c.args.text.now in
    let x = c.in-Call in
    let first : tree_items c.deref-in-Call.result.now ≡ tree_items x.receiver.value = ap tree_items c.deref-in-Call.ensures in
    let behind : below_items c.deref-in-Call-2.result.now ≡ below_items x.arguments.items = ap below_items c.deref-in-Call-2.ensures.value in
    let all = ap tree_items x.is ∙ ap term_items (call_is x.receiver x.label x.arguments x.field-3) in
    record {
      adds = on_ok_weaker c.put_call.result
          (λ e. e ∙ (λ i. old ++ words (decimal 7 ∷ label_behind x.label.text (first i ∷ behind i) terms_items)) ∙ ap (λ (ts : Items). old ++ words ts) (sym all))
          c.put_call.ensures.adds;
    }
