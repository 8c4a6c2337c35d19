use Rattle.std.proofs.Common.{◌+◌, ◌∙◌, ap, map, sym, subst, arith}
use Rattle.std.proofs.lemmas.List.{map-append}
use Rattle.asp_model.specs.Shapes.{lists_shape}
use Rattle.outcome_search.specs.Ends.{run_logs}
use Rattle.outcome_search.specs.Found.{HasOffersTo}
use Rattle.outcome_search.proofs.ClosedLemmas.{offers_more}
use Rattle.outcome_search.proofs.runs.Runs.offers_at_all.Goals as goal

pub loop-place-preserved : goal.loop-place-preserved
loop-place-preserved g c =
    let program = g.Self.Runs.program c.args.self.now in
    let x = run_logs c.args.run.now in
    let was = c.loop-place.all.items in
    let more = c.in_ok-offers.offers.items in
    subst (HasOffersTo program x c.args.to.now (c.loop-place.place + 1)) (sym (ap (map lists_shape) c.in_ok-append.ensures.items ∙ map-append lists_shape was more))
    (offers_more program x c.args.to.now c.loop-place.place (map lists_shape was) (map lists_shape more) c.loop-place.invariant c.in_ok-offers.ensures.all)

pub returns : goal.returns
returns g c = record { all = λ k lt. c.loop-place.invariant k (omega (arith, lt, c.loop-place-test.false)) }
