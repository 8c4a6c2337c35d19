use Rattle.std.proofs.Common.{◌≡◌, refl, sym, subst, ap, ◌∙◌, arith, List, drop, ◌∷◌, ◌+◌}
use Rattle.std.proofs.lemmas.List.{drop_all, drop_more}
use Rattle.step_machine.specs.Standing.{view_of}
use Rattle.frozen_code.specs.declared.machines.Suspended.{Suspended}
use Rattle.frozen_code.specs.Restoring.{HasServed}
use Rattle.frozen_code.proofs.RestoreLemmas.{all_served, one_served}
use Rattle.frozen_code.proofs.machines.suspend_all.Goals as goal

pub loop-suspended-init : goal.loop-suspended-init
loop-suspended-init c = λ k ws vs b h. record { rest = vs; served = ws; holds = h; bare = b; all = refl }

pub loop-suspended-preserved : goal.loop-suspended-preserved
loop-suspended-preserved c = λ k ws vs b h.
    let services : List Suspended = c.args.services.now in
    let x : Suspended = c.suspended-item.result in
    let i = c.loop-suspended.suspended-index in
    let left : drop i services ≡ x ∷ drop (i + 1) services = drop_more services i x c.loop-suspended-test.true ∙ ap (λ (y : Suspended). y ∷ drop (i + 1) services) (sym c.suspended-item.is) in
    let old = view_of c.loop-suspended.machine in
    let s : HasServed k (x ∷ drop (i + 1) services) old ws vs = subst (λ (l : List Suspended). HasServed k l old ws vs) left (c.loop-suspended.invariant k ws vs b h) in
    one_served k ws vs old (view_of c.suspend.new.machine) x (drop (i + 1) services) s (λ us v bare held. c.in_ok-suspend.ensures.bare k us v bare held)

pub returns : goal.returns
returns c = record {
  bare = λ k ws vs b h.
      let services : List Suspended = c.args.services.now in
      let new = view_of c.loop-suspended.machine in
      let none = drop_all c.loop-suspended.suspended-index services c.loop-suspended-test.false in
      all_served k ws vs new (subst (λ (l : List Suspended). HasServed k l new ws vs) none (c.loop-suspended.invariant k ws vs b h));
}
