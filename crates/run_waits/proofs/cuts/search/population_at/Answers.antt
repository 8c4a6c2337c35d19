use Rattle.std.proofs.Common.{◌≡◌, ◌<◌, ◌∙◌, refl, ap, arith}
use Rattle.asp_model.specs.Replay.{total}
use Rattle.asp_model.specs.Shapes.{counts_shape}
use Rattle.run_waits.specs.declared.cuts.search.Search.{Search}
use Rattle.run_waits.proofs.SearchLemmas.{begins, found_at_once}
use Rattle.run_waits.proofs.cuts.search.population_at.Goals as goal

pub returns-then-count-eq0 : goal.returns-then-count-eq0
returns-then-count-eq0 c = record { found = λ program n sought start. found_at_once program c.args.lists.now n c.args.count c.args.number c.args.population c.if-count-eq0.true start }

pub run-requires-clause-searching : goal.run-requires-clause-searching
run-requires-clause-searching c =
    let r = c.requires.begun in
    let s : Search = record { population = c.args.population; top = c.args.number; below = c.new.result } in
    let sum : c.total_of-turns.result ≡ total (counts_shape c.args.counts.now) = c.total_of-turns.ensures ∙ ap total c.deref.ensures.value in
    let some : 0 < c.args.count = omega (arith, c.if-count-eq0.false) in
    (r.0, r.1, counts_shape c.args.counts.now, omega (arith, sum), r.2, begins r.0 c.args.lists.now r.1 c.args.count c.args.number s some r.3 refl c.new.ensures.items)

pub returns : goal.returns
returns c = record {
  found = λ program n sought start.
      let s : Search = record { population = c.args.population; top = c.args.number; below = c.new.result } in
      let some : 0 < c.args.count = omega (arith, c.if-count-eq0.false) in
      c.in_ok-run.ensures.found program n (counts_shape c.args.counts.now) sought (begins program c.args.lists.now n c.args.count c.args.number s some start refl c.new.ensures.items);
}
