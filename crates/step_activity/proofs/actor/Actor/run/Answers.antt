use Rattle.std.proofs.Common.{◌≡◌, ◌+◌, ◌≤◌, ℕ, zero, suc, sym, ap, subst, ◌∙◌, arith}
use Rattle.asp_model.specs.Configuration as model
use Rattle.activity_step.specs.Activities.{IsUsed}
use Rattle.activity_step.specs.Local.{LocalRun}
use Rattle.step_activity.specs.declared.actor.Actor.{Actor}
use Rattle.step_activity.proofs.StandLemmas.{stands_with}
use Rattle.step_activity.proofs.actor.Actor.run.Goals as goal

-- what contractions keep, and how many reductions they are
record Kept (n : ℕ) (a b : model.Activity) : Type 0 where
  sends : a.sends ≡ b.sends
  creations : a.creations ≡ b.creations
  served : a.served ≡ b.served
  count : b.reductions ≡ a.reductions + n

run_kept : (n : ℕ) (a b : model.Activity) → LocalRun n a b → Kept n a b
run_kept zero a b h =
    let same : a.reductions ≡ b.reductions = ap (λ (x : model.Activity). x.reductions) h in
    record { sends = ap (λ x. x.sends) h; creations = ap (λ x. x.creations) h; served = ap (λ x. x.served) h; count = omega (arith, same) }
run_kept (suc n) a b h =
    let m = h.0 in
    let is = sym h.1.after in
    let rest = run_kept n m b h.2 in
    let one : suc a.reductions ≡ m.reductions = ap (λ (x : model.Activity). x.reductions) is in
    record { sends = ap (λ x. x.sends) is ∙ rest.sends; creations = ap (λ x. x.creations) is ∙ rest.creations; served = ap (λ x. x.served) is ∙ rest.served; count = omega (arith, one, rest.count) }

pub returns-clause-runs : goal.returns-clause-runs
returns-clause-runs c = λ a rs h.
    let x : Actor = c.args.self.now in
    let r = c.in_ok-local.ensures.run a h.activity in
    let kept = run_kept r.count a r.end r.run in
    let before : c.count-before.result ≡ a.reductions = c.count-before.ensures.count a h.activity in
    let after : c.count.result ≡ r.end.reductions = c.count.ensures.count r.end r.stands in
    let all : r.count ≡ c.saturating_sub.result = omega (arith, before, after, kept.count, c.saturating_sub.ensures) in
    record {
      end = r.end;
      advance = c.in_ok-local.field-0;
      run = subst (λ (n : ℕ). LocalRun n a r.end) all r.run;
      within = subst (λ (n : ℕ). n ≤ c.args.most) all r.within;
      stands = stands_with x c.local.new.self a r.end rs h r.stands c.in_ok-local.ensures.code kept.sends kept.creations kept.served;
      stop = r.stop;
      used = subst (λ (n : ℕ). IsUsed n c.args.most c.in_ok-local.field-0) all r.used;
    }
