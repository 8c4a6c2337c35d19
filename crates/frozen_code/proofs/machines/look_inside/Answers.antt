use Rattle.std.proofs.Common.{sym, subst}
use Rattle.asp_model.specs.Split.{plug}
use Rattle.asp_model.specs.Term.{Tree, loc}
use Rattle.step_machine.specs.Items.{contexts_of}
use Rattle.step_machine.specs.Standing.{Standing, view_of}
use Rattle.frozen_code.specs.declared.machines.Innermost.{Innermost}
use Rattle.frozen_code.specs.declared.machines.Innermost.TheVariants as innermost
use Rattle.frozen_code.specs.Restoring.{HoldsInnermost}
use Rattle.frozen_code.proofs.RestoreLemmas.{on_ok}
use Rattle.frozen_code.proofs.machines.look_inside.Goals as goal

pub returns-in-At : goal.returns-in-At
returns-in-At c = record {
  stands = λ k vs t b h.
      let here : HoldsInnermost k (innermost.At c.in-At.place) t = subst (λ (x : Innermost). HoldsInnermost k x t) c.in-At.is h in
      subst (λ (u : Tree). Standing k (view_of c.rest_at.new.machine) (plug (contexts_of b.items) u) vs) (sym here) (c.rest_at.ensures.stands k vs b);
}

pub returns-in-Redex : goal.returns-in-Redex
returns-in-Redex c = record {
  stands = λ k vs t b h.
      let here : HoldsInnermost k (innermost.Redex c.in-Redex.held) t = subst (λ (x : Innermost). HoldsInnermost k x t) c.in-Redex.is h in
      on_ok c.begin_at.result (subst (λ (u : Tree). Standing k (view_of c.begin_at.new.machine) (plug (contexts_of b.items) u) vs) (sym here.2)) (c.begin_at.ensures.stands k vs here.0 b here.1);
}
