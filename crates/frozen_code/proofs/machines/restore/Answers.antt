use Rattle.std.proofs.Common.{List, [], reverse, subst, sym, ◌∙◌}
use Rattle.std.proofs.lemmas.List.{append-nil}
use Rattle.asp_model.specs.Configuration.{ServiceShape}
use Rattle.asp_model.specs.Split.{plug}
use Rattle.step_machine.specs.Standing.{Standing, View, view_of}
use Rattle.frozen_code.specs.Restoring.{IsBare}
use Rattle.frozen_code.proofs.RestoreLemmas.{bare_empty, waiting_is}
use Rattle.frozen_code.proofs.machines.restore.Goals as goal

pub returns : goal.returns
returns c = record {
  stands = λ k vs cs t services contexts inner.
      let new = view_of c.look_within.new.machine in
      subst (λ (ws : List ServiceShape). Standing k new (plug cs t) ws) (waiting_is vs [] ∙ append-nil (reverse vs))
      (c.in_ok-look_within.ensures.stands k _ cs t (c.in_ok-suspend_all.ensures.bare k [] vs (subst (λ (v : View). IsBare k v []) (sym c.empty_machine-machine.ensures.view) (bare_empty k)) services) contexts inner);
}
