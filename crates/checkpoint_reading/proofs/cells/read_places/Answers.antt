use Rattle.std.proofs.Common.{ℕ}
use Rattle.checkpoint_text.specs.Reading.{place}
use Rattle.std.proofs.lemmas.Result.{err_from_is_err_and}
use Rattle.checkpoint_items.proofs.ListLemmas.{none_read, one_read, one_refused, all_kept}
use Rattle.checkpoint_reading.proofs.cells.read_places.Goals as goal

pub loop-init : goal.loop-init
loop-init c = rw c.new-places.ensures.items (none_read place (λ (k : ℕ). k) c.in_ok-count.count c.read_count.new.items)

pub loop-preserved : goal.loop-preserved
loop-preserved c =
    rw c.in_ok-push.ensures.items
    (one_read place (λ (k : ℕ). k) c.in_ok-count.count c.read_count.new.items c.loop.counter c.loop.places.items c.loop.items c.in_ok-read_place.field-0 c.read_place.new.items c.loop-test.true c.loop.invariant c.in_ok-read_place.ensures.read)

pub returns-in_err-read_place : goal.returns-in_err-read_place
returns-in_err-read_place c =
    let q = err_from_is_err_and c.from_residual-in_err-read_place.result c.from_residual-in_err-read_place.ensures.1 in
    rw (q.1, q.2)
    (record { read = one_refused place (λ (k : ℕ). k) c.args.items.now c.in_ok-count.count c.read_count.new.items c.loop.counter c.loop.places.items c.loop.items c.in_err-read_place.field-0.0 c.in_ok-count.ensures.read c.loop-test.true c.loop.invariant c.in_err-read_place.ensures.read })

pub returns : goal.returns
returns c = record { read = all_kept place c.args.items.now c.in_ok-count.count c.read_count.new.items c.loop.counter c.loop.places.items c.loop.items c.in_ok-count.ensures.read c.loop-test.false c.loop.invariant }
