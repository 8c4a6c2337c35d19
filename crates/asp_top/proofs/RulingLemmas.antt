-- A replay of which nothing is left open is the only end.
use Rattle.std.specs.Prelude.{◌≡◌, List, [], Option, Some, None}
use Rattle.std.proofs.Common.{ap, subst, refl}
use Rattle.asp_model.specs.Names.{Name}
use Rattle.asp_model.specs.Term.{Tree, locations}
use Rattle.asp_model.specs.Configuration.{Configuration, start}
use Rattle.asp_model.specs.Step.{ListsShape}
use Rattle.asp_model.specs.Status.{VerdictShape, End, Blocked, Budget, IsStuck, verdict_of}
use Rattle.asp_model.specs.Replay.{CountsShape, lists_of, replay}
use Rattle.asp_model.specs.Outcome.{ActivityReportShape, outcome_of}
use Rattle.asp_model.specs.Report.{text_of}
use Rattle.law_steps.specs.Joins.{AreNarrow}
use Rattle.law_steps.proofs.ReachedLemmas.{start_is_reached, runs_go_on}
use Rattle.law_steps.proofs.ReplayLemmas.{replays_are_runs}
use Rattle.law_paths.proofs.ReplayLemmas.{narrow_runs_are_alone}
use Rattle.law_outcomes.proofs.OutcomeLemmas.{outcome_lists}
use Rattle.determinacy.specs.Rulings.{Determinate, first_open, ruled, ruled_by}
use Rattle.determinacy.proofs.RulingLemmas.{none_open}
use Rattle.asp_top.specs.Rulings.{IsOnlyEnd}
use Rattle.asp_top.proofs.StatusLemmas.{Stops, Ended, Waiting, Going, stops}

none_if : (o : Option Name) → ruled_by o ≡ Determinate → o ≡ None
none_if None e = refl
none_if (Some n) e = absurd cc

none_open_by : (v : VerdictShape) (activities : List ActivityReportShape) → ruled (record { verdict = v; activities = activities }) ≡ Determinate → first_open activities ≡ None
none_open_by End activities e = none_if (first_open activities) e
none_open_by Blocked activities e = none_if (first_open activities) e
none_open_by Budget activities e = absurd cc

ended_by : (v : VerdictShape) (activities : List ActivityReportShape) → ruled (record { verdict = v; activities = activities }) ≡ Determinate → v ≡ Budget → ⊥
ended_by End activities e is = cc
ended_by Blocked activities e is = cc
ended_by Budget activities e is = cc

stuck_if : (c : Configuration) → (verdict_of c ≡ Budget → ⊥) → Stops c → IsStuck c
stuck_if c ends (Ended s) = s.stuck
stuck_if c ends (Waiting s) = s.stuck
stuck_if c ends (Going s) = absurd (ends s.verdict)

narrow_at : (c : Configuration) → ruled (outcome_of c) ≡ Determinate → AreNarrow (lists_of c)
narrow_at c e = subst AreNarrow (outcome_lists c) (none_open (outcome_of c).activities (none_open_by (verdict_of c) (outcome_of c).activities e))

pub only_end : (program : Tree) (lists : ListsShape) (counts : CountsShape) → locations program ≡ [] → ruled (outcome_of (replay program lists counts)) ≡ Determinate → IsOnlyEnd program (replay program lists counts)
only_end program lists counts bare e budget journal s lawful stuck =
    let c = replay program lists counts in
    let r = replays_are_runs program lists counts in
    let reached = runs_go_on program (Some lists) r.0 (start program) c (start_is_reached program) r.1 in
    let here = stuck_if c (ended_by (verdict_of c) (outcome_of c).activities e) (stops c) in
    let end = (narrow_runs_are_alone program c bare reached here (narrow_at c e) budget journal s lawful).end stuck in
    (end.verdict, λ depth. ap text_of (end.reports depth))
