use Rattle.std.proofs.Common.{◌≡◌, refl, sym, subst, ap, ◌∙◌, arith, List, drop, ◌∷◌, ◌+◌}
use Rattle.std.proofs.lemmas.List.{drop_all, drop_more}
use Rattle.step_machine.specs.Standing.{view_of}
use Rattle.frozen_code.specs.declared.held.Held.{Held}
use Rattle.frozen_code.specs.Restoring.{HasSome}
use Rattle.frozen_code.proofs.RestoreLemmas.{all_held, one_more}
use Rattle.frozen_code.proofs.restoring.hold_all.Goals as goal

pub loop-held-init : goal.loop-held-init
loop-held-init c = λ k vs cs b h. record { rest = cs; holds = h; below = b; items = refl }

pub loop-held-preserved : goal.loop-held-preserved
loop-held-preserved c = λ k vs cs b h.
    let helds : List Held = c.args.helds.now in
    let x : Held = c.held-item.result in
    let i = c.loop-held.held-index in
    let left : drop i helds ≡ x ∷ drop (i + 1) helds = drop_more helds i x c.loop-held-test.true ∙ ap (λ (y : Held). y ∷ drop (i + 1) helds) (sym c.held-item.is) in
    let first = view_of c.args.machine.now in
    let old = view_of c.loop-held.machine in
    let s : HasSome k (x ∷ drop (i + 1) helds) first old vs b cs = subst (λ (l : List Held). HasSome k l first old vs b cs) left (c.loop-held.invariant k vs cs b h) in
    one_more k vs first old (view_of c.hold.new.machine) b cs x (drop (i + 1) helds) s (λ d now g. c.in_ok-hold.ensures.held k vs d now g)

pub returns : goal.returns
returns c = record {
  held = λ k vs cs b h.
      let helds : List Held = c.args.helds.now in
      let first = view_of c.args.machine.now in
      let new = view_of c.loop-held.machine in
      let none = drop_all c.loop-held.held-index helds c.loop-held-test.false in
      all_held k vs first new b cs (subst (λ (l : List Held). HasSome k l first new vs b cs) none (c.loop-held.invariant k vs cs b h));
}
