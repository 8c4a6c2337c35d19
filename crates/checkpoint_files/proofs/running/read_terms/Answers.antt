use Rattle.asp_model.specs.Shapes.{tree_of}
use Rattle.checkpoint_text.specs.Reading.{term}
use Rattle.std.proofs.lemmas.Result.{err_from_is_err_and}
use Rattle.checkpoint_items.proofs.ListLemmas.{none_read, one_read, one_refused, all_read}
use Rattle.checkpoint_files.proofs.running.read_terms.Goals as goal

pub loop-init : goal.loop-init
loop-init c = rw c.new-terms.ensures.items (none_read term tree_of c.in_ok-count.count c.read_count.new.items)

pub loop-preserved : goal.loop-preserved
loop-preserved c =
    rw c.in_ok-push.ensures.items
    (one_read term tree_of c.in_ok-count.count c.read_count.new.items c.loop.counter c.loop.terms.items c.loop.items
    c.in_ok-read_term.field-0 c.read_term.new.items c.loop-test.true c.loop.invariant
    c.in_ok-read_term.ensures.read)

pub returns-in_err-read_term : goal.returns-in_err-read_term
returns-in_err-read_term c =
    let q = err_from_is_err_and c.from_residual-in_err-read_term.result c.from_residual-in_err-read_term.ensures.1 in
    rw (q.1, q.2)
    (record {
      read = one_refused term tree_of c.args.items.now c.in_ok-count.count c.read_count.new.items
          c.loop.counter c.loop.terms.items c.loop.items c.in_err-read_term.field-0.0 c.in_ok-count.ensures.read
          c.loop-test.true c.loop.invariant c.in_err-read_term.ensures.read;
    })

pub returns : goal.returns
returns c = record {
  read = all_read term tree_of c.args.items.now c.in_ok-count.count c.read_count.new.items
      c.loop.counter c.loop.terms.items c.loop.items c.in_ok-count.ensures.read c.loop-test.false c.loop.invariant;
}
