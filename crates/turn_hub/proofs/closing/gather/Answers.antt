use Rattle.std.proofs.Common.{rules, ◌≡◌, ◌+◌, ◌∙◌, sum_by, [], ◌∷◌, ◌++◌, subst, ap, arith}
use Rattle.std.proofs.lemmas.List.Elements.{All-pop, All-push, All-same}
use Rattle.std.proofs.lemmas.List.Sums.{sum_by-append}
use Rattle.asp_model.specs.History.{BeginsWith, HistoryShape}
use Rattle.turn_hub.specs.declared.seat.Seat.{Seat}
use Rattle.turn_hub.specs.Seats.{IsAt, IsFree, seen_by}
use Rattle.turn_hub.proofs.closing.gather.Goals as goal

pub take_in_all-requires-clause-seats : goal.take_in_all-requires-clause-seats
take_in_all-requires-clause-seats g c =
    let S = Seat g.row.H.Denot in
    (All-pop (λ (s : S). IsAt c.args.top.now.table_id c.args.top.now.key s × IsFree s) _ _ _ c.pop.ensures.items c.requires.seats).0

pub returns-clause-parts : goal.returns-clause-parts
returns-clause-parts g c =
    let S = Seat g.row.H.Denot in
    let left = c.pop.new.self.items in
    let items : c.args.seats.items ≡ left ++ c.in-Some.first ∷ [] = search rules in
    let all : sum_by (λ (s : S). s.parts) c.args.seats.items ≡ sum_by (λ (s : S). s.parts) left + (0 + c.in-Some.first.parts) = ap (sum_by (λ (s : S). s.parts)) items ∙ sum_by-append (λ (s : S). s.parts) left (c.in-Some.first ∷ []) in
    let more = c.take_in_all.ensures.parts in
    let one = c.opened-place.ensures.parts in
    omega arith

pub returns-clause-knows : goal.returns-clause-knows
returns-clause-knows g c = λ h known.
    let S = Seat g.row.H.Denot in
    let x = c.take_in_all.ensures.knows h known in
    let items : c.args.seats.items ≡ c.pop.new.self.items ++ c.in-Some.first ∷ [] = search rules in
    All-same (λ (s : S). BeginsWith (g.H.Lends.history h) (seen_by s)) _ _ items
    (All-push (λ (s : S). BeginsWith (g.H.Lends.history h) (seen_by s)) c.pop.new.self.items c.in-Some.first x.1 (subst (λ (y : HistoryShape). BeginsWith (g.H.Lends.history h) y) c.opened-place.ensures.seen x.0.0))
