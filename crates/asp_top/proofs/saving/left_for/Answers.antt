use Rattle.std.proofs.Common.{refl, sym, subst}
use Rattle.std.specs.Prelude.{IfOk}
use Rattle.run_saves.specs.declared.saved.Saved.{Saved}
use Rattle.asp_top.specs.Resumed.{IsLeftOf}
use Rattle.asp_top.proofs.OutcomeLemmas.{ended_left, stopped_left}
use Rattle.asp_top.proofs.saving.left_for.Goals as goal

pub returns-in-Stopped : goal.returns-in-Stopped
returns-in-Stopped g c = record { left = stopped_left c.args.saved _ c.in-Stopped.is refl }

pub returns-in-Ended : goal.returns-in-Ended
returns-in-Ended g c =
    let r = c.report_for-report in
    record { left = subst (λ (s : Saved). IfOk r.result (IsLeftOf s)) (sym c.in-Ended.is) (ended_left c.in-Ended.end r.result r.ensures.text r.ensures.status) }
