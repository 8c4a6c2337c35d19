use Rattle.std.proofs.Common.{rules, ◌≡◌, ◌+◌, ◌∙◌, ◌++◌, [], ◌∷◌, Option, IfSome, sum_by, vec_len, sym, ap, subst, arith}
use Rattle.std.proofs.lemmas.List.Elements.{All-pop, All-push, All-same}
use Rattle.std.proofs.lemmas.List.Sums.{sum_by-append}
use Rattle.crossbeam_utils.specs.Padded.{padded_value}
use Rattle.crossbeam_utils.specs.declared.cache_padded.CachePadded.{CachePadded}
use Rattle.turn_hub.specs.declared.seat.Seat.{Seat}
use Rattle.race_trials.specs.Ready.{IsReady}
use Rattle.race_trials.proofs.crew.together.Goals as goal

pub loop-seat-preserved : goal.loop-seat-preserved
loop-seat-preserved g c =
    let S = Seat g.row.H.Denot in
    let P : CachePadded S → Type 0 = λ p. IsReady c.args.hub.now 1 (padded_value p) in
    let Q : S → Type 0 = λ s. IsReady c.args.hub.now 1 s in
    let i = c.loop-seat.invariant in
    let popped = All-pop P _ _ _ c.pop.ensures.items i.0 in
    let one : P c.in-Some.seat = subst (λ (o : Option (CachePadded S)). IfSome o P) c.in-Some.is popped.1 in
    let seat : Q c.into_inner.result = subst Q (sym c.into_inner.ensures) one in
    let items : c.push-in-Some.new.self.items ≡ c.loop-seat.all.items ++ c.into_inner.result ∷ [] = search rules in
    let parts : sum_by (λ (s : S). s.parts) c.push-in-Some.new.self.items ≡ sum_by (λ (s : S). s.parts) c.loop-seat.all.items + (0 + c.into_inner.result.parts) = ap (sum_by (λ (s : S). s.parts)) items ∙ sum_by-append (λ (s : S). s.parts) c.loop-seat.all.items (c.into_inner.result ∷ []) in
    let one_part = seat.1 in
    let all = i.2 in
    let less : vec_len c.loop-seat.rest ≡ vec_len c.pop.new.self + 1 = search rules in (
      popped.0,
      All-same Q _ _ items (All-push Q c.loop-seat.all.items c.into_inner.result i.1 seat),
      omega arith,
    )
