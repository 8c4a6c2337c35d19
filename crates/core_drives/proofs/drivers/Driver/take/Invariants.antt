use Rattle.std.proofs.Common.{ℕ, Bool, drop, map}
use Rattle.asp_model.specs.History.{HistoryShape}
use Rattle.asp_core.specs.Cores.{history_of}
use Rattle.asp_core.specs.Plans.{StayByPlan}
use Rattle.core_drives.specs.Driving.{HaveRun, IsDriving}
use Rattle.core_drives.specs.Steps.{Lead, step_shape}
use Rattle.core_drives.proofs.drivers.Driver.take.Given as goal

abbrev pub invariant-loop-step : goal.invariant-loop-step
invariant-loop-step g l = IsDriving l.self
    × ((ran : ℕ → Bool) → HaveRun ran l.initial.self → (now : ℕ → Bool) × HaveRun now l.self
    × ((h : HistoryShape) → Lead (map step_shape (drop l.step-index l.steps)) now (history_of l.self.core) h → Lead (map step_shape l.steps) ran (history_of l.initial.self.core) h))
    × StayByPlan g.P.UpdatePolicy.answer g.P.UpdatePolicy.asked l.initial.self.core.edges l.self.core.edges
