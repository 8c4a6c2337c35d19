use Rattle.std.proofs.Common.{refl, false, true}
use Rattle.asp_model.specs.History.{Committed}
use Rattle.core_state.specs.Arrivals.{act_at}
use Rattle.asp_core.specs.Cores.{code_of, first_homes, history_of}
use Rattle.asp_core.specs.Runs.{counted}
use Rattle.asp_core.proofs.CoreLemmas.{begins_before, begins_same, has_gone_on, entered, run_kept, runs, same_history}
use Rattle.asp_core.proofs.ChosenLemmas.{stays_chosen}
use Rattle.asp_core.proofs.PlanLemmas.{by_plan_on}
use Rattle.asp_core.proofs.StopLemmas.{comes_stopped}
use Rattle.asp_core.proofs.cores.Core.commit.Goals as goal

pub returns-in_err-bring_back-clause-begins : goal.returns-in_err-bring_back-clause-begins
returns-in_err-bring_back-clause-begins g c =
    let x = c.args.self.now in
    let new = record x { state = c.bring_back.new.state; edges = c.bring_back.new.edges; spent = true } in
    begins_same (history_of new) (history_of x) (same_history x new refl refl refl c.in_err-bring_back.ensures.entries)

pub returns-clause-committed : goal.returns-clause-committed
returns-clause-committed g c = λ s run l.
    let x = c.args.self.now in
    let lease = c.args.lease in
    let new = record x { state = c.bring_back.new.state; edges = c.bring_back.new.edges; spent = false } in
    let back = c.in_ok-bring_back.ensures.back (history_of x) (code_of x) s (first_homes x) run.stand run.labels l in
    let e = Committed lease.number (counted lease.taken (act_at s l.name lease.grant lease.taken back.end)) in
    record { end = back.end; has_run = back.has_run; on = has_gone_on x new e back.after refl refl refl refl back.stand back.labels run.bare }

pub returns-clause-kept : goal.returns-clause-kept
returns-clause-kept g c =
    let x = c.args.self.now in
    let lease = c.args.lease in
    let new = record x { state = c.bring_back.new.state; edges = c.bring_back.new.edges; spent = false } in
    let r = c.requires.kept c.if-self.false in
    let back = c.in_ok-bring_back.ensures.back (history_of x) (code_of x) r.0 (first_homes x) r.1.stand r.1.labels c.requires.lease in
    let e = Committed lease.number (counted lease.taken (act_at r.0 c.requires.lease.name lease.grant lease.taken back.end)) in
    run_kept new back.after (runs x new e back.after refl refl refl refl back.stand back.labels r.1.bare)

pub returns-clause-begins : goal.returns-clause-begins
returns-clause-begins g c =
    let x = c.args.self.now in
    let lease = c.args.lease in
    let new = record x { state = c.bring_back.new.state; edges = c.bring_back.new.edges; spent = false } in
    let r = c.requires.kept c.if-self.false in
    let back = c.in_ok-bring_back.ensures.back (history_of x) (code_of x) r.0 (first_homes x) r.1.stand r.1.labels c.requires.lease in
    let e = Committed lease.number (counted lease.taken (act_at r.0 c.requires.lease.name lease.grant lease.taken back.end)) in
    begins_before (history_of new) (history_of x) e (entered x new e back.after refl refl refl refl back.stand back.labels r.1.bare)

pub returns-clause-by_plan : goal.returns-clause-by_plan
returns-clause-by_plan g c =
    let r = c.requires.kept c.if-self.false in
    by_plan_on g.P.UpdatePolicy.answer g.P.UpdatePolicy.asked c.args.self.now r.0 c.bring_back.new.edges r.1 c.in_ok-bring_back.ensures.keeps c.in_ok-bring_back.ensures.answers

pub returns-clause-chosen : goal.returns-clause-chosen
returns-clause-chosen g c =
    let x = c.args.self.now in
    let lease = c.args.lease in
    let new = record x { state = c.bring_back.new.state; edges = c.bring_back.new.edges; spent = false } in
    let r = c.requires.kept c.if-self.false in
    let back = c.in_ok-bring_back.ensures.back (history_of x) (code_of x) r.0 (first_homes x) r.1.stand r.1.labels c.requires.lease in
    let e = Committed lease.number (counted lease.taken (act_at r.0 c.requires.lease.name lease.grant lease.taken back.end)) in
    let answers = c.in_ok-bring_back.ensures.answers in
    stays_chosen x new r.0 back.after e answers.given r.1 (runs x new e back.after refl refl refl refl back.stand back.labels r.1.bare) (entered x new e back.after refl refl refl refl back.stand back.labels r.1.bare) answers.kept tt

pub returns-clause-stopped : goal.returns-clause-stopped
returns-clause-stopped g c = λ has.
    let x = c.args.self.now in
    let lease = c.args.lease in
    let new = record x { state = c.bring_back.new.state; edges = c.bring_back.new.edges; spent = false } in
    let r = c.requires.kept c.if-self.false in
    let name = c.requires.lease.name in
    let back = c.in_ok-bring_back.ensures.back (history_of x) (code_of x) r.0 (first_homes x) r.1.stand r.1.labels c.requires.lease in
    let e = Committed lease.number (counted lease.taken (act_at r.0 name lease.grant lease.taken back.end)) in
    comes_stopped x new r.0 (code_of x) lease name back.end r.1 (has c.in_ok-bring_back.ensures.fresh) back.has_run (entered x new e back.after refl refl refl refl back.stand back.labels r.1.bare)
