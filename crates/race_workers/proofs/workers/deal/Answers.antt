use Rattle.std.proofs.Common.{rules, ◌≡◌, ◌++◌, [], ◌∷◌, refl, sym, subst, arith}
use Rattle.std.proofs.lemmas.List.Elements.{All-push, All-same}
use Rattle.crossbeam_utils.specs.Padded.{padded_value}
use Rattle.crossbeam_utils.specs.declared.cache_padded.CachePadded.{CachePadded}
use Rattle.race_workers.specs.declared.seats.Seats.{Seats}
use Rattle.race_workers.specs.Working.{AreReady}
use Rattle.race_workers.proofs.workers.deal.Goals as goal

pub two_seats-requires-clause-first : goal.two_seats-requires-clause-first
two_seats-requires-clause-first g c =
    let i = c.loop-worker.invariant.0 in
    (i.0, refl, i.2, i.3, i.4)

pub loop-worker-preserved : goal.loop-worker-preserved
loop-worker-preserved g c =
    let Two = Seats g.row.P.Denot in
    let Ready : CachePadded Two → Type 0 = λ p. AreReady c.args.hub.now (padded_value p) in
    let i = c.loop-worker.invariant in
    let e = c.two_seats.ensures in
    let items : c.push.new.self.items ≡ c.loop-worker.seats.items ++ c.new.result ∷ [] = search rules in
    let new : Ready c.new.result = subst (λ (t : Two). AreReady c.args.hub.now t) (sym c.new.ensures) e.seats in
    let parts = e.parts in
    let before = i.0.1 in (
      (e.first.0, omega arith, e.first.2, e.first.3, e.first.4),
      search rules,
      All-same Ready _ _ items (All-push Ready c.loop-worker.seats.items c.new.result i.2 new),
    )
