use Rattle.std.proofs.Common.{◌∙◌, ◌-◌, ap, refl, subst, sym}
use Rattle.step_activity.specs.Actors.{Stands, code_of, log_in}
use Rattle.step_activity.specs.Running.{IsRunBy}
use Rattle.core_state.specs.declared.lease.Lease.{Lease}
use Rattle.long_leases.specs.declared.long_lease.LongLease.{LongLease}
use Rattle.long_leases.proofs.LongLemmas.{long_runs_on}
use Rattle.long_leases.proofs.long_lease.LongLease.run.Goals as goal

pub returns-in-Ok-clause-lease : goal.returns-in-Ok-clause-lease
returns-in-Ok-clause-lease c = λ h code l.
    let x = c.args.self.now in
    let z : Lease = record x.lease { taken = c.saturating_add-self.result; actor = record x.lease.actor { value = c.run.new.self } } in
    let y : LongLease = record { lease = z; rounds = x.rounds } in
    (long_runs_on h code x y l c.if-self.false c.in-Ok.taken c.contractions.result c.contractions.ensures.contractions c.contractions.ensures.few refl refl refl refl c.saturating_add-self.ensures
    (λ a rs stands. subst (λ most. IsRunBy c.run.new.self a rs most c.in-Ok.taken) (c.saturating_sub-left.ensures ∙ ap (λ j. j - x.lease.taken) c.saturating_add-most.ensures) (c.in-Ok.ensures.runs a rs (subst (λ z. Stands z a rs) (sym c.as_mut.ensures.value) stands)))
    (c.run.ensures.code ∙ ap code_of c.as_mut.ensures.value) (c.run.ensures.log ∙ ap log_in c.as_mut.ensures.value) c.if-self.false).lease

pub returns-in-Ok-clause-ends : goal.returns-in-Ok-clause-ends
returns-in-Ok-clause-ends c = λ h code l.
    let x = c.args.self.now in
    let z : Lease = record x.lease { taken = c.saturating_add-self.result; actor = record x.lease.actor { value = c.run.new.self } } in
    let y : LongLease = record { lease = z; rounds = x.rounds } in
    long_runs_on h code x y l c.if-self.false c.in-Ok.taken c.contractions.result c.contractions.ensures.contractions c.contractions.ensures.few refl refl refl refl c.saturating_add-self.ensures
    (λ a rs stands. subst (λ most. IsRunBy c.run.new.self a rs most c.in-Ok.taken) (c.saturating_sub-left.ensures ∙ ap (λ j. j - x.lease.taken) c.saturating_add-most.ensures) (c.in-Ok.ensures.runs a rs (subst (λ z. Stands z a rs) (sym c.as_mut.ensures.value) stands)))
    (c.run.ensures.code ∙ ap code_of c.as_mut.ensures.value) (c.run.ensures.log ∙ ap log_in c.as_mut.ensures.value) c.if-self.false
