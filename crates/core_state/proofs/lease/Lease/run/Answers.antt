use Rattle.std.proofs.Common.{◌∙◌, ap, refl, subst, sym}
use Rattle.step_activity.specs.Actors.{Stands, code_of, log_in}
use Rattle.step_activity.specs.Running.{IsRunBy}
use Rattle.core_state.specs.declared.lease.Lease.{Lease}
use Rattle.core_state.proofs.LeaseLemmas.{runs_on}
use Rattle.core_state.proofs.lease.Lease.run.Goals as goal

pub returns-in-Ok-clause-lease : goal.returns-in-Ok-clause-lease
returns-in-Ok-clause-lease c = λ h code l.
    let x = c.args.self.now in
    let y : Lease = record { alloc = x.alloc; number = x.number; burst = x.burst; grant = x.grant; taken = c.saturating_add-self.result; spent = x.spent; actor = record x.actor { value = c.run.new.self } } in
    (runs_on h code x y l c.if-self.false c.in-Ok.taken refl refl refl c.saturating_add-self.ensures
    (λ a rs stands. subst (λ most. IsRunBy c.run.new.self a rs most c.in-Ok.taken) c.saturating_sub-left.ensures (c.in-Ok.ensures.runs a rs (subst (λ z. Stands z a rs) (sym c.as_mut.ensures.value) stands)))
    (c.run.ensures.code ∙ ap code_of c.as_mut.ensures.value) (c.run.ensures.log ∙ ap log_in c.as_mut.ensures.value) c.if-self.false).lease

pub returns-in-Ok-clause-stops : goal.returns-in-Ok-clause-stops
returns-in-Ok-clause-stops c = λ h code l.
    let x = c.args.self.now in
    let y : Lease = record { alloc = x.alloc; number = x.number; burst = x.burst; grant = x.grant; taken = c.saturating_add-self.result; spent = x.spent; actor = record x.actor { value = c.run.new.self } } in
    runs_on h code x y l c.if-self.false c.in-Ok.taken refl refl refl c.saturating_add-self.ensures
    (λ a rs stands. subst (λ most. IsRunBy c.run.new.self a rs most c.in-Ok.taken) c.saturating_sub-left.ensures (c.in-Ok.ensures.runs a rs (subst (λ z. Stands z a rs) (sym c.as_mut.ensures.value) stands)))
    (c.run.ensures.code ∙ ap code_of c.as_mut.ensures.value) (c.run.ensures.log ∙ ap log_in c.as_mut.ensures.value) c.if-self.false
