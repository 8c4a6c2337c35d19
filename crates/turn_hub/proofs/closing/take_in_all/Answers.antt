use Rattle.std.proofs.Common.{rules, ◌≡◌, ◌+◌, ◌∙◌, sum_by, List, [], ◌∷◌, ◌++◌, Option, IfSome, ap, subst, arith}
use Rattle.std.proofs.lemmas.List.Elements.{All-pop, All-push, All-same, All-nil}
use Rattle.std.proofs.lemmas.List.Sums.{sum_by-append}
use Rattle.asp_model.specs.History.{BeginsWith}
use Rattle.turn_hub.specs.declared.seat.Seat.{Seat}
use Rattle.turn_hub.specs.Seats.{IsAt, IsFree, seen_by}
use Rattle.turn_hub.proofs.closing.take_in_all.Goals as goal

pub loop-seat-preserved : goal.loop-seat-preserved
loop-seat-preserved g c =
    let S = Seat g.row.H.Denot in
    let i = c.loop-seat.invariant in
    let left : List S = c.pop.new.self.items in
    let items : c.loop-seat.rest.items ≡ left ++ c.in-Some.seat ∷ [] = search rules in
    let parts : sum_by (λ (s : S). s.parts) c.loop-seat.rest.items ≡ sum_by (λ (s : S). s.parts) left + (0 + c.in-Some.seat.parts) = ap (sum_by (λ (s : S). s.parts)) items ∙ sum_by-append (λ (s : S). s.parts) left (c.in-Some.seat ∷ []) in
    let taken = c.take_in.ensures in
    let more = taken.parts in
    let all = i.3 in (
      taken.same.0 ∙ i.0,
      taken.same.1,
      (All-pop (λ (s : S). IsAt c.args.top.now.table_id c.args.top.now.key s × IsFree s) _ _ _ c.pop.ensures.items i.2).0,
      omega arith,
      λ h known rest. let x = taken.knows h known in i.4 h x.0 (All-same (λ (s : S). BeginsWith (g.H.Lends.history h) (seen_by s)) _ _ items (All-push (λ (s : S). BeginsWith (g.H.Lends.history h) (seen_by s)) left c.in-Some.seat rest x.1)),
    )

pub take_in-requires-clause-seat : goal.take_in-requires-clause-seat
take_in-requires-clause-seat g c =
    let S = Seat g.row.H.Denot in
    subst (λ (o : Option S). IfSome o (λ s. IsAt c.args.top.now.table_id c.args.top.now.key s × IsFree s)) c.in-Some.is
    (All-pop (λ (s : S). IsAt c.args.top.now.table_id c.args.top.now.key s × IsFree s) _ _ _ c.pop.ensures.items c.loop-seat.invariant.2).1

pub returns-clause-parts : goal.returns-clause-parts
returns-clause-parts g c =
    let S = Seat g.row.H.Denot in
    let empty : c.loop-seat.rest.items ≡ [] = search rules in
    let none : sum_by (λ (s : S). s.parts) c.loop-seat.rest.items ≡ 0 = ap (sum_by (λ (s : S). s.parts)) empty in
    let all = c.loop-seat.invariant.3 in
    omega arith

pub returns-clause-knows : goal.returns-clause-knows
returns-clause-knows g c = λ h known.
    let S = Seat g.row.H.Denot in
    let empty : c.loop-seat.rest.items ≡ [] = search rules in
    c.loop-seat.invariant.4 h known (All-same (λ (s : S). BeginsWith (g.H.Lends.history h) (seen_by s)) _ _ empty (All-nil (λ (s : S). BeginsWith (g.H.Lends.history h) (seen_by s))))
