use Rattle.std.proofs.Common.{rules, ◌≡◌, ◌+◌, ◌∙◌, ◌++◌, [], ◌∷◌, ℕ, List, Option, IfSome, sum_by, vec_len, sym, ap, subst, arith}
use Rattle.std.proofs.lemmas.List.Elements.{All-pop, All-push, All-same}
use Rattle.std.proofs.lemmas.List.Sums.{sum_by_push}
use Rattle.crossbeam_utils.specs.Padded.{padded_value}
use Rattle.crossbeam_utils.specs.declared.cache_padded.CachePadded.{CachePadded}
use Rattle.turn_hub.specs.declared.seat.Seat.{Seat}
use Rattle.race_desks.specs.declared.desk.SharedDesk.{SharedDesk}
use Rattle.race_workers.specs.declared.seats.Seats.{Seats}
use Rattle.race_workers.specs.Working.{AreReady, IsReady}
use Rattle.race_workers.proofs.workers.together.Goals as goal

pub loop-seats-preserved : goal.loop-seats-preserved
loop-seats-preserved g c =
    let S = Seat (SharedDesk g.row.P.Denot) in
    let Two = Seats g.row.P.Denot in
    let Ready : CachePadded Two → Type 0 = λ p. AreReady c.args.hub.now (padded_value p) in
    let Free : S → Type 0 = λ s. IsReady c.args.hub.now 1 s in
    let parts_of : S → ℕ = λ s. s.parts in
    let i = c.loop-seats.invariant in
    let popped = All-pop Ready _ _ _ c.pop.ensures.items i.0 in
    let one : Ready c.in-Some.seats = subst (λ (o : Option (CachePadded Two)). IfSome o Ready) c.in-Some.is popped.1 in
    let two : AreReady c.args.hub.now c.into_inner.result = subst (λ (t : Two). AreReady c.args.hub.now t) (sym c.into_inner.ensures) one in
    let before : List S = c.loop-seats.all.items in
    let a : S = c.into_inner.result.first in
    let b : S = c.into_inner.result.second in
    let items : c.put.new.all.items ≡ (before ++ a ∷ []) ++ b ∷ [] = c.put.ensures.items in
    let parts : sum_by parts_of c.put.new.all.items ≡ (sum_by parts_of before + a.parts) + b.parts = ap (sum_by parts_of) items ∙ sum_by_push parts_of (before ++ a ∷ []) b ∙ ap (λ (n : ℕ). n + b.parts) (sum_by_push parts_of before a) in
    let part_a = two.0.1 in
    let part_b = two.1.1 in
    let all = i.3 in
    let room = i.4 in
    let less : vec_len c.loop-seats.rest ≡ vec_len c.pop.new.self + 1 = search rules in
    let longer = c.put.ensures.len in
    let wide = c.put.ensures.room in (
      popped.0,
      All-same Free _ _ items (All-push Free (before ++ a ∷ []) b (All-push Free before a i.1 two.0) two.1),
      omega arith,
      omega arith,
      omega arith,
    )
