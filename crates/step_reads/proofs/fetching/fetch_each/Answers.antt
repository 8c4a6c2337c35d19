use Rattle.std.proofs.Common.{ℕ, refl, ◌∙◌, arith}
use Rattle.asp_model.specs.Names.{FutureShape}
use Rattle.asp_model.specs.Chase.{Chase, chase}
use Rattle.future_table.specs.Values.{values_of}
use Rattle.step_reads.proofs.FetchLemmas.{IsOnWay, ended, first_lacks, on_way, started}
use Rattle.step_reads.proofs.fetching.fetch_each.Goals as goal

pub loop-place-init : goal.loop-place-init
loop-place-init c = record { way = λ a h. started (chase (values_of c.args.futures.now)) a c.args.places.now c.args.activity.now h; code = refl }

pub returns-then-not-branch-clause-fetched : goal.returns-then-not-branch-clause-fetched
returns-then-not-branch-clause-fetched c = λ a h.
    let chases : FutureShape → Chase = chase (values_of c.args.futures.now) in
    let i : ℕ = c.loop-place.place-index in
    let w : IsOnWay chases a c.args.places.now i c.loop-place.activity = c.loop-place.invariant.way a h in
    first_lacks chases a c.args.places.now i c.loop-place.activity c.fetch.new.activity c.in_ok-fetch.field-0 w (omega arith) c.if-not-branch.true (c.in_ok-fetch.ensures.fetched (record a { store = w.store }) w.stands)

pub loop-place-preserved : goal.loop-place-preserved
loop-place-preserved c =
    let chases : FutureShape → Chase = chase (values_of c.args.futures.now) in
    let i : ℕ = c.loop-place.place-index in
    record {
      way = λ a h.
          let w : IsOnWay chases a c.args.places.now i c.loop-place.activity = c.loop-place.invariant.way a h in
          on_way chases a c.args.places.now i c.loop-place.activity c.fetch.new.activity c.in_ok-fetch.field-0 w (omega arith) c.if-not-branch.false (c.in_ok-fetch.ensures.fetched (record a { store = w.store }) w.stands);
      code = c.fetch.ensures.code ∙ c.loop-place.invariant.code;
    }

pub returns-clause-fetched : goal.returns-clause-fetched
returns-clause-fetched c = λ a h.
    ended (chase (values_of c.args.futures.now)) a c.args.places.now c.loop-place.place-index c.loop-place.activity (c.loop-place.invariant.way a h) (omega arith)
