use Rattle.std.proofs.Common.{rules, ◌<◌, ◌∙◌, ℕ, length, subst}
use Rattle.asp_model.specs.History.{BeginsWith}
use Rattle.asp_model.proofs.HistoryLemmas.{begins_with_earlier}
use Rattle.asp_core.specs.declared.cores.Core.{Core}
use Rattle.asp_core.specs.Chosen.{StaysChosen}
use Rattle.asp_core.specs.Cores.{IsHome, IsKept, history_of}
use Rattle.asp_core.specs.Plans.{StayByPlan}
use Rattle.asp_core.specs.Stopping.{StaysStopped}
use Rattle.turn_hub.specs.declared.seat.Seat.{Seat}
use Rattle.turn_hub.specs.Seats.{seen_by}
use Rattle.race_desks.specs.declared.desk.SharedDesk.{SharedDesk}
use Rattle.race_desks.specs.Desks.{core_at, history_at}
use Rattle.race_desks.specs.Turns.{desk_in}
use Rattle.race_desks.proofs.TurnLemmas.{all_home}
use Rattle.race_workers.specs.Working.{IsReady, opened_at}
use Rattle.race_workers.proofs.SeatLemmas.{if_fresh, some_of}
use Rattle.race_workers.proofs.workers.closed.Goals as goal

pub returns : goal.returns
returns g c =
    let C = Core g.row.P.Denot in
    let S = Seat (SharedDesk g.row.P.Denot) in
    let kept = c.close.ensures.kept in
    let desk = desk_in c.close.result in
    let h = history_at desk in
    let first = opened_at c.args.hub in
    let back = c.into_core.ensures in
    let some_seat : 0 < length c.args.all.items = search rules in
    let one = some_of (λ (s : S). IsReady c.args.hub 1 s) (λ (s : S). BeginsWith h (seen_by s)) c.args.all.items some_seat c.requires.ready c.close.ensures.history in
    let home = all_home desk 0 kept.orderly (λ n low. c.close.ensures.all_in n (subst (λ (m : ℕ). n < m) (kept.seats ∙ c.requires.rows) low)) in
    record {
      kept = if_fresh c.into_core.result (core_at desk) (λ (k : C). IsKept k) back.core back.fresh (λ _. kept.orderly.kept);
      home = if_fresh c.into_core.result (core_at desk) (λ (k : C). IsHome k) back.core back.fresh (λ _. home);
      begins = if_fresh c.into_core.result (core_at desk) (λ (k : C). BeginsWith (history_of k) (history_at first)) back.core back.fresh (λ _. begins_with_earlier h (seen_by one.0) (history_at first) one.2 one.1.4);
      by_plan = if_fresh c.into_core.result (core_at desk) (λ (k : C). StayByPlan g.P.UpdatePolicy.answer g.P.UpdatePolicy.asked (core_at first).edges k.edges) back.core back.fresh (λ e. (kept.core e).plan);
      chosen = if_fresh c.into_core.result (core_at desk) (λ (k : C). StaysChosen (core_at first) k) back.core back.fresh (λ e. (kept.core e).chosen);
      stopped = if_fresh c.into_core.result (core_at desk) (λ (k : C). StaysStopped (history_at first) (history_of k)) back.core back.fresh (λ e. (kept.core e).stopped);
    }
