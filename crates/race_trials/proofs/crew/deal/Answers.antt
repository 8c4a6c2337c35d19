use Rattle.std.proofs.Common.{rules, ◌≡◌, ◌++◌, [], ◌∷◌, sym, subst, arith}
use Rattle.std.proofs.lemmas.List.Elements.{All-push, All-same}
use Rattle.crossbeam_utils.specs.Padded.{padded_value}
use Rattle.crossbeam_utils.specs.declared.cache_padded.CachePadded.{CachePadded}
use Rattle.turn_hub.specs.declared.seat.Seat.{Seat}
use Rattle.race_trials.specs.Ready.{IsReady}
use Rattle.race_trials.proofs.crew.deal.Goals as goal

pub loop-worker-preserved : goal.loop-worker-preserved
loop-worker-preserved g c =
    let hub = c.args.hub.now in
    let P : CachePadded (Seat g.row.H.Denot) → Type 0 = λ p. IsReady hub 1 (padded_value p) in
    let i = c.loop-worker.invariant in
    let new = c.in-Ok.ensures.new in
    let kept = c.split.ensures.kept in
    let items : c.push.new.self.items ≡ c.loop-worker.seats.items ++ c.new.result ∷ [] = search rules in
    let made : IsReady hub 1 c.in-Ok.seat = (new.0.0, new.0.2, new.0.3) in
    let padded : P c.new.result = subst (λ (s : Seat g.row.H.Denot). IsReady hub 1 s) (sym c.new.ensures) made in
    let parts = c.in-Ok.ensures.parts in
    let before = i.0.1 in (
      (c.split.ensures.seat.1, omega arith, (c.split.ensures.no_turn, search rules)),
      search rules,
      All-same P _ _ items (All-push P c.loop-worker.seats.items c.new.result i.2 padded),
    )
