use Rattle.std.proofs.Common.{◌∙◌, refl, sym, subst}
use Rattle.asp_model.specs.History.{BeginsWith, HistoryShape}
use Rattle.race_desks.specs.Desks.{history_at}
use Rattle.race_workers.specs.Working.{opened_at}
use Rattle.race_workers.proofs.workers.one_seat.Goals as goal

pub returns-clause-seat : goal.returns-clause-seat
returns-clause-seat g c =
    let Later : HistoryShape → Type 0 = λ h. BeginsWith h (history_at (opened_at c.args.hub.now)) in
    let n = c.in-Ok.ensures.new in
    (n.0.0, n.0.2, n.0.3.0, n.0.3.1, subst Later (sym n.1) c.requires.first.4)

pub returns-clause-first : goal.returns-clause-first
returns-clause-first g c =
    let Later : HistoryShape → Type 0 = λ h. BeginsWith h (history_at (opened_at c.args.hub.now)) in
    let kept = c.split.ensures.kept in
    (c.split.ensures.seat.1, refl, c.split.ensures.no_turn, kept.1 ∙ c.requires.first.3, subst Later (sym kept.0) c.requires.first.4)
