use Rattle.asp_model.specs.declared.word.Label.{Label}
use Rattle.checkpoint_text.specs.Reading.{text}
use Rattle.std.proofs.lemmas.Result.{err_from_is_err_and}
use Rattle.checkpoint_items.proofs.ListLemmas.{none_read, one_read, one_refused, all_read}
use Rattle.checkpoint_items.proofs.names.read_labels.Goals as goal

pub loop-init : goal.loop-init
loop-init c = rw c.new-labels.ensures.items (none_read text (λ (x : Label). x.text) c.in_ok-count.count c.read_count.new.items)

pub loop-preserved : goal.loop-preserved
loop-preserved c =
    rw c.in_ok-push.ensures.items
    (one_read text (λ (x : Label). x.text) c.in_ok-count.count c.read_count.new.items c.loop.counter c.loop.labels.items c.loop.items c.in_ok-read_label.field-0 c.read_label.new.items c.loop-test.true c.loop.invariant c.in_ok-read_label.ensures.read)

pub returns-in_err-read_label : goal.returns-in_err-read_label
returns-in_err-read_label c =
    let q = err_from_is_err_and c.from_residual-in_err-read_label.result c.from_residual-in_err-read_label.ensures.1 in
    rw (q.1, q.2)
    (record { read = one_refused text (λ (x : Label). x.text) c.args.items.now c.in_ok-count.count c.read_count.new.items c.loop.counter c.loop.labels.items c.loop.items c.in_err-read_label.field-0.0 c.in_ok-count.ensures.read c.loop-test.true c.loop.invariant c.in_err-read_label.ensures.read })

pub returns : goal.returns
returns c = record { read = all_read text (λ (x : Label). x.text) c.args.items.now c.in_ok-count.count c.read_count.new.items c.loop.counter c.loop.labels.items c.loop.items c.in_ok-count.ensures.read c.loop-test.false c.loop.invariant }
