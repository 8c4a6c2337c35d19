use Rattle.std.proofs.Common.{List, ◌∷◌, reverse, sym, subst, ◌∙◌}
use Rattle.std.specs.Option.{option_map}
use Rattle.code_table.specs.Cells.{held_future}
use Rattle.step_machine.specs.Standing.{View, view_of}
use Rattle.frozen_code.specs.declared.held.Held.{Held}
use Rattle.frozen_code.specs.Restoring.{HasItems, HoldAll, IsBare}
use Rattle.frozen_code.proofs.RestoreLemmas.{on_ok, suspends}
use Rattle.frozen_code.proofs.machines.suspend.Goals as goal

pub returns : goal.returns
returns c = record {
  bare = λ k vs v s h.
      let old : View = view_of c.args.machine.now in
      let mid : View = view_of c.hold_all.new.machine in
      let f = option_map held_future c.in_ok-future.future in
      let x : HasItems k old mid vs s.below (reverse v.contexts) = c.in_ok-hold_all.ensures.held k vs (reverse v.contexts) s.below (subst (λ (l : List Held). HoldAll k l (reverse v.contexts)) (sym c.deref.ensures.value) h.contexts) in
      on_ok c.serve.result (suspends k old mid (view_of c.serve.new.machine) vs v f s x (c.in_ok-future.ensures.same ∙ h.future)) (c.serve.ensures.served k vs x.below);
}
