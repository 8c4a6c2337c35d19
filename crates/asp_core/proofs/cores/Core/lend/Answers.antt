use Rattle.std.proofs.Common.{◌∙◌, [], ap, refl, subst, sym}
use Rattle.std.proofs.lemmas.List.{append-nil}
use Rattle.asp_model.specs.History.{Lent}
use Rattle.law_journals.specs.Entered.{with_lease}
use Rattle.core_state.specs.Lending.{IsNewLease}
use Rattle.asp_core.specs.Chosen.{StaysChosen}
use Rattle.asp_core.specs.Cores.{IsKept, code_of, first_homes, history_of}
use Rattle.asp_core.specs.Stopping.{StaysStopped}
use Rattle.asp_core.proofs.ChosenLemmas.{stays_chosen}
use Rattle.asp_core.proofs.CoreLemmas.{begins_before, begins_same, entered, run_kept, runs}
use Rattle.asp_core.proofs.PlanLemmas.{by_plan_kept, labels_kept}
use Rattle.asp_core.proofs.StandLemmas.{lends}
use Rattle.asp_core.proofs.StopLemmas.{stays_stopped}
use Rattle.asp_core.proofs.cores.Core.lend.Goals as goal

pub returns-in_default-clause-lent : goal.returns-in_default-clause-lent
returns-in_default-clause-lent g c = λ s run.
    let x = c.args.self.now in
    let none = c.in_default.ensures.lent (history_of x) (code_of x) s run.stand.core in
    (none.0, ap (λ q. record x { state = q }) none.1)

pub returns-in_default-clause-kept : goal.returns-in_default-clause-kept
returns-in_default-clause-kept g c =
    let x = c.args.self.now in
    let r = c.requires.kept c.if-self.false in
    let none = c.in_default.ensures.lent (history_of x) (code_of x) r.0 r.1.stand.core in
    subst (λ q. IsKept (record x { state = q })) (sym none.1) c.requires.kept

pub returns-in_default-clause-begins : goal.returns-in_default-clause-begins
returns-in_default-clause-begins g c =
    let x = c.args.self.now in
    let r = c.requires.kept c.if-self.false in
    let none = c.in_default.ensures.lent (history_of x) (code_of x) r.0 r.1.stand.core in
    begins_same (history_of (record x { state = c.lend.new.self })) (history_of x) (ap (λ q. history_of (record x { state = q })) none.1)

pub returns-clause-lent : goal.returns-clause-lent
returns-clause-lent g c = λ s run.
    let x = c.args.self.now in
    let k = c.args.number in
    let y = c.lend.new.self in
    let w = c.lent.new.self in
    let lent = c.in-Some.ensures.lent (history_of x) (code_of x) s run.stand.core in
    let st = lends (history_of x) (code_of x) s x.state x.edges.holders run.stand w.holders y k lent.1 c.lent.ensures.turned c.lent.ensures.edges.holders c.lent.ensures.edges.answers in
    let new = record x { state = y; edges = w } in
    let labels = labels_kept (first_homes x) s.configuration s.configuration x.edges w refl c.lent.ensures.edges run.labels in
    let on = entered x new (Lent k) (with_lease s k) refl refl refl run.fresh st labels run.bare in
    (lent.0, on, runs x new (Lent k) (with_lease s k) refl refl refl run.fresh st labels run.bare, subst (λ h. IsNewLease h (code_of x) k c.in-Some.lease) (sym on) lent.2)

pub returns-clause-kept : goal.returns-clause-kept
returns-clause-kept g c =
    let x = c.args.self.now in
    let k = c.args.number in
    let y = c.lend.new.self in
    let w = c.lent.new.self in
    let r = c.requires.kept c.if-self.false in
    let lent = c.in-Some.ensures.lent (history_of x) (code_of x) r.0 r.1.stand.core in
    let st = lends (history_of x) (code_of x) r.0 x.state x.edges.holders r.1.stand w.holders y k lent.1 c.lent.ensures.turned c.lent.ensures.edges.holders c.lent.ensures.edges.answers in
    let labels = labels_kept (first_homes x) r.0.configuration r.0.configuration x.edges w refl c.lent.ensures.edges r.1.labels in
    let new = record x { state = y; edges = w } in
    run_kept new (with_lease r.0 k) (runs x new (Lent k) (with_lease r.0 k) refl refl refl r.1.fresh st labels r.1.bare)

pub returns-clause-begins : goal.returns-clause-begins
returns-clause-begins g c =
    let x = c.args.self.now in
    let k = c.args.number in
    let y = c.lend.new.self in
    let w = c.lent.new.self in
    let r = c.requires.kept c.if-self.false in
    let lent = c.in-Some.ensures.lent (history_of x) (code_of x) r.0 r.1.stand.core in
    let st = lends (history_of x) (code_of x) r.0 x.state x.edges.holders r.1.stand w.holders y k lent.1 c.lent.ensures.turned c.lent.ensures.edges.holders c.lent.ensures.edges.answers in
    let labels = labels_kept (first_homes x) r.0.configuration r.0.configuration x.edges w refl c.lent.ensures.edges r.1.labels in
    let new = record x { state = y; edges = w } in
    begins_before (history_of new) (history_of x) (Lent k) (entered x new (Lent k) (with_lease r.0 k) refl refl refl r.1.fresh st labels r.1.bare)

pub returns-in_default-clause-by_plan : goal.returns-in_default-clause-by_plan
returns-in_default-clause-by_plan g c = λ plan policies is. is

pub returns-clause-by_plan : goal.returns-clause-by_plan
returns-clause-by_plan g c = by_plan_kept g.P.UpdatePolicy.answer g.P.UpdatePolicy.asked c.args.self.now.edges c.lent.new.self c.lent.ensures.edges

pub returns-in_default-clause-chosen : goal.returns-in_default-clause-chosen
returns-in_default-clause-chosen g c =
    let x = c.args.self.now in
    let r = c.requires.kept c.if-self.false in
    let none = c.in_default.ensures.lent (history_of x) (code_of x) r.0 r.1.stand.core in
    subst (λ q. StaysChosen x (record x { state = q })) (sym none.1) (λ are. are)

pub returns-in_default-clause-stopped : goal.returns-in_default-clause-stopped
returns-in_default-clause-stopped g c =
    let x = c.args.self.now in
    let r = c.requires.kept c.if-self.false in
    let none = c.in_default.ensures.lent (history_of x) (code_of x) r.0 r.1.stand.core in
    subst (λ q. StaysStopped (history_of x) (history_of (record x { state = q }))) (sym none.1) (λ are. are)

pub returns-clause-chosen : goal.returns-clause-chosen
returns-clause-chosen g c =
    let x = c.args.self.now in
    let k = c.args.number in
    let y = c.lend.new.self in
    let w = c.lent.new.self in
    let r = c.requires.kept c.if-self.false in
    let lent = c.in-Some.ensures.lent (history_of x) (code_of x) r.0 r.1.stand.core in
    let edges = c.lent.ensures.edges in
    let st = lends (history_of x) (code_of x) r.0 x.state x.edges.holders r.1.stand w.holders y k lent.1 c.lent.ensures.turned edges.holders edges.answers in
    let labels = labels_kept (first_homes x) r.0.configuration r.0.configuration x.edges w refl edges r.1.labels in
    let new = record x { state = y; edges = w } in
    let t = with_lease r.0 k in
    stays_chosen x new r.0 t (Lent k) [] r.1 (runs x new (Lent k) t refl refl refl r.1.fresh st labels r.1.bare) (entered x new (Lent k) t refl refl refl r.1.fresh st labels r.1.bare) (edges.answers ∙ sym (append-nil x.edges.holders.answers)) tt

pub returns-clause-stopped : goal.returns-clause-stopped
returns-clause-stopped g c =
    let x = c.args.self.now in
    let k = c.args.number in
    let y = c.lend.new.self in
    let w = c.lent.new.self in
    let r = c.requires.kept c.if-self.false in
    let lent = c.in-Some.ensures.lent (history_of x) (code_of x) r.0 r.1.stand.core in
    let edges = c.lent.ensures.edges in
    let st = lends (history_of x) (code_of x) r.0 x.state x.edges.holders r.1.stand w.holders y k lent.1 c.lent.ensures.turned edges.holders edges.answers in
    let labels = labels_kept (first_homes x) r.0.configuration r.0.configuration x.edges w refl edges r.1.labels in
    let new = record x { state = y; edges = w } in
    stays_stopped x new r.0 (Lent k) r.1 (entered x new (Lent k) (with_lease r.0 k) refl refl refl r.1.fresh st labels r.1.bare) tt
