use Rattle.std.proofs.Common.{refl, false}
use Rattle.asp_model.specs.History.{Delivered}
use Rattle.asp_model.specs.Shapes.{delivery_shape}
use Rattle.asp_core.specs.Cores.{code_of, first_homes, history_of}
use Rattle.asp_core.proofs.CoreLemmas.{begins_before, entered, has_gone_on, run_kept, runs}
use Rattle.asp_core.proofs.ChosenLemmas.{owed_chosen, stays_chosen}
use Rattle.asp_core.proofs.PlanLemmas.{by_plan_on}
use Rattle.asp_core.proofs.StopLemmas.{stays_stopped}
use Rattle.asp_core.proofs.cores.Core.deliver.Goals as goal

pub returns-clause-delivered : goal.returns-clause-delivered
returns-clause-delivered g c = λ s run.
    let x = c.args.self.now in
    let new = record x { state = c.hand.new.state; edges = c.hand.new.edges; spent = false } in
    let handed = c.in_ok-hand.ensures.handed (history_of x) (code_of x) s (first_homes x) run.stand run.labels (c.requires.may s run) in
    has_gone_on x new (Delivered (delivery_shape c.args.delivery.now)) handed.0 refl refl refl refl handed.1 handed.2 run.bare

pub returns-clause-kept : goal.returns-clause-kept
returns-clause-kept g c =
    let x = c.args.self.now in
    let new = record x { state = c.hand.new.state; edges = c.hand.new.edges; spent = false } in
    let r = c.requires.kept c.if-self.false in
    let handed = c.in_ok-hand.ensures.handed (history_of x) (code_of x) r.0 (first_homes x) r.1.stand r.1.labels (c.requires.may r.0 r.1) in
    run_kept new handed.0 (runs x new (Delivered (delivery_shape c.args.delivery.now)) handed.0 refl refl refl refl handed.1 handed.2 r.1.bare)

pub returns-clause-begins : goal.returns-clause-begins
returns-clause-begins g c =
    let x = c.args.self.now in
    let new = record x { state = c.hand.new.state; edges = c.hand.new.edges; spent = false } in
    let r = c.requires.kept c.if-self.false in
    let e = Delivered (delivery_shape c.args.delivery.now) in
    let handed = c.in_ok-hand.ensures.handed (history_of x) (code_of x) r.0 (first_homes x) r.1.stand r.1.labels (c.requires.may r.0 r.1) in
    begins_before (history_of new) (history_of x) e (entered x new e handed.0 refl refl refl refl handed.1 handed.2 r.1.bare)

pub returns-clause-by_plan : goal.returns-clause-by_plan
returns-clause-by_plan g c =
    let r = c.requires.kept c.if-self.false in
    by_plan_on g.P.UpdatePolicy.answer g.P.UpdatePolicy.asked c.args.self.now r.0 c.hand.new.edges r.1 c.in_ok-hand.ensures.keeps c.in_ok-hand.ensures.answers

pub returns-clause-chosen : goal.returns-clause-chosen
returns-clause-chosen g c = λ s run owed.
    let x = c.args.self.now in
    let new = record x { state = c.hand.new.state; edges = c.hand.new.edges; spent = false } in
    let d = delivery_shape c.args.delivery.now in
    let e = Delivered d in
    let handed = c.in_ok-hand.ensures.handed (history_of x) (code_of x) s (first_homes x) run.stand run.labels (c.requires.may s run) in
    let answers = c.in_ok-hand.ensures.answers in
    stays_chosen x new s handed.0 e answers.given run (runs x new e handed.0 refl refl refl refl handed.1 handed.2 run.bare) (entered x new e handed.0 refl refl refl refl handed.1 handed.2 run.bare) answers.kept
    (owed_chosen s x.edges.holders.holders x.edges.holders.answers d owed)

pub returns-clause-stopped : goal.returns-clause-stopped
returns-clause-stopped g c =
    let x = c.args.self.now in
    let new = record x { state = c.hand.new.state; edges = c.hand.new.edges; spent = false } in
    let r = c.requires.kept c.if-self.false in
    let e = Delivered (delivery_shape c.args.delivery.now) in
    let handed = c.in_ok-hand.ensures.handed (history_of x) (code_of x) r.0 (first_homes x) r.1.stand r.1.labels (c.requires.may r.0 r.1) in
    stays_stopped x new r.0 e r.1 (entered x new e handed.0 refl refl refl refl handed.1 handed.2 r.1.bare) tt
