use Rattle.std.proofs.Common.{sym, subst}
use Rattle.asp_model.specs.Split.{plug}
use Rattle.asp_model.specs.Term.{loc}
use Rattle.step_machine.specs.Items.{contexts_of}
use Rattle.step_machine.specs.Standing.{Standing, View, view_of}
use Rattle.frozen_code.proofs.RestoreLemmas.{rests}
use Rattle.frozen_code.proofs.restoring.rest_at.Goals as goal

pub returns : goal.returns
returns c = record {
  stands = λ k vs b.
      let v : View = view_of c.args.machine.now in
      subst (λ (w : View). Standing k w (plug (contexts_of b.items) (loc c.args.place)) vs) (sym c.look_at_place.ensures.view) (rests k v vs b c.args.place);
}
