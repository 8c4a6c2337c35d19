use Rattle.std.proofs.Common.{ℕ, ◌^◌}
use Rattle.checkpoint_text.specs.Reading.{number_to}
use Rattle.std.proofs.lemmas.Result.{err_from_is_err_and}
use Rattle.checkpoint_items.proofs.ListLemmas.{none_read, one_read, one_refused, all_kept}
use Rattle.checkpoint_items.proofs.names.read_bytes.Goals as goal

pub loop-init : goal.loop-init
loop-init c = rw c.new-bytes.ensures.items (none_read (number_to (2 ^ 8)) (λ (b : ℕ). b) c.in_ok-count.count c.read_count.new.items)

pub loop-preserved : goal.loop-preserved
loop-preserved c =
    rw c.in_ok-push.ensures.items
    (one_read (number_to (2 ^ 8)) (λ (b : ℕ). b) c.in_ok-count.count c.read_count.new.items c.loop.counter c.loop.bytes.items c.loop.items c.in_ok-read_byte.field-0 c.read_byte.new.items c.loop-test.true c.loop.invariant c.in_ok-read_byte.ensures.read)

pub returns-in_err-read_byte : goal.returns-in_err-read_byte
returns-in_err-read_byte c =
    let q = err_from_is_err_and c.from_residual-in_err-read_byte.result c.from_residual-in_err-read_byte.ensures.1 in
    rw (q.1, q.2)
    (record { read = one_refused (number_to (2 ^ 8)) (λ (b : ℕ). b) c.args.items.now c.in_ok-count.count c.read_count.new.items c.loop.counter c.loop.bytes.items c.loop.items c.in_err-read_byte.field-0.0 c.in_ok-count.ensures.read c.loop-test.true c.loop.invariant c.in_err-read_byte.ensures.read })

pub returns : goal.returns
returns c = record { read = all_kept (number_to (2 ^ 8)) c.args.items.now c.in_ok-count.count c.read_count.new.items c.loop.counter c.loop.bytes.items c.loop.items c.in_ok-count.ensures.read c.loop-test.false c.loop.invariant }
