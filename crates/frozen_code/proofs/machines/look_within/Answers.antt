use Rattle.std.proofs.Common.{List, reverse, subst}
use Rattle.asp_model.specs.Split.{Context, plug}
use Rattle.step_machine.specs.Items.{contexts_of}
use Rattle.step_machine.specs.Standing.{Standing, View, view_of}
use Rattle.frozen_code.specs.Restoring.{HasItems}
use Rattle.frozen_code.proofs.RestoreLemmas.{bare_contexts, on_ok}
use Rattle.frozen_code.proofs.machines.look_within.Goals as goal

pub returns : goal.returns
returns c = record {
  stands = λ k vs cs t s h inner.
      let old : View = view_of c.args.machine.now in
      let mid : View = view_of c.hold_all.new.machine in
      let new : View = view_of c.look_inside.new.machine in
      let x : HasItems k old mid vs s.below (reverse cs) = c.in_ok-hold_all.ensures.held k vs (reverse cs) s.below h in
      on_ok c.look_inside.result (subst (λ (l : List Context). Standing k new (plug l t) vs) (bare_contexts k old mid vs s cs x)) (c.look_inside.ensures.stands k vs t x.below inner);
}
