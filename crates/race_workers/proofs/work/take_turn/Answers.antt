use Rattle.std.proofs.Common.{ℕ, ◌∙◌, ap, sym, subst}
use Rattle.asp_model.specs.History.{BeginsWith, HistoryShape}
use Rattle.asp_model.proofs.HistoryLemmas.{begins_with_earlier}
use Rattle.turn_hub.specs.Seats.{seen_by}
use Rattle.race_desks.specs.Desks.{row_at}
use Rattle.race_desks.specs.Turns.{HasLease, IsFinished, desk_in}
use Rattle.race_workers.specs.Working.{opened_at}
use Rattle.race_workers.proofs.SeatLemmas.{brought, taken_along, turned}
use Rattle.race_desks.proofs.TurnLemmas.{keeps_further}
use Rattle.race_workers.proofs.work.take_turn.Goals as goal

pub turn-next-requires-clause-held : goal.turn-next-requires-clause-held
turn-next-requires-clause-held g c =
    let e = c.take-desk.ensures in
    let same = c.number.ensures.number ∙ e.seat.3 in
    subst (λ (n : ℕ). HasLease IsFinished (desk_in c.take-desk.result) n c.args.held.now) (sym same)
    (brought g.P.UpdatePolicy.answer g.P.UpdatePolicy.asked c.args.hub.now c.args.seat.now c.take-desk.result _ c.args.held.now c.requires.seat.3 e.out e.history e.kept)

pub give-requires-clause-kept : goal.give-requires-clause-kept
give-requires-clause-kept g c =
    keeps_further g.P.UpdatePolicy.answer g.P.UpdatePolicy.asked (opened_at c.args.hub.now) (desk_in c.take-desk.result) (desk_in c.turn-next.new.self) c.take-desk.ensures.kept c.turn-next.ensures.turn.keeps

pub returns : goal.returns
returns g c =
    let took = c.take-desk.ensures in
    let done = c.turn-next.ensures in
    let gave = c.give.ensures in
    let x = c.turn-next.new.self in
    let n = c.number.result in
    let seat = c.give.new.seat in
    let keeps = keeps_further g.P.UpdatePolicy.answer g.P.UpdatePolicy.asked (opened_at c.args.hub.now) (desk_in c.take-desk.result) (desk_in x) took.kept done.turn.keeps in
    let out = taken_along c.args.hub.now seat x n c.turn-next.new.held done.lease (gave.out ∙ ap (λ (k : ℕ). row_at (desk_in x) k) (sym c.number.ensures.number)) gave.history keeps.code in
    record {
      seat = turned c.args.hub.now c.args.seat.now seat c.args.held.now c.turn-next.new.held c.requires.seat
          (gave.seat.0 ∙ took.seat.0, gave.seat.1 ∙ took.seat.1, gave.seat.2 ∙ took.seat.2, gave.seat.3 ∙ took.seat.3, gave.seat.4 ∙ took.seat.4)
          gave.no_turn
          (subst (λ (h : HistoryShape). BeginsWith h (seen_by c.args.seat.now)) (sym gave.history)
          (begins_with_earlier _ _ (seen_by c.args.seat.now) done.turn.later took.history))
          out;
    }
