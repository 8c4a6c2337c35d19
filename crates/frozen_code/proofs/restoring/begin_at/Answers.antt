use Rattle.asp_model.specs.Split.{plug}
use Rattle.code_laws.specs.Splitting.{redex_node}
use Rattle.step_machine.specs.Items.{contexts_of}
use Rattle.step_machine.specs.Standing.{Standing, View, view_of}
use Rattle.frozen_code.specs.Restoring.{begun_view}
use Rattle.frozen_code.proofs.RestoreLemmas.{on_view, stands}
use Rattle.frozen_code.proofs.restoring.begin_at.Goals as goal

pub returns : goal.returns
returns c = record {
  stands = λ k vs r b h.
      let v : View = view_of c.args.machine.now in
      on_view c.look_at_node.result (view_of c.look_at_node.new.machine) (begun_view c.args.held.now.node c.args.held.now.places.items c.args.held.now.done.items v)
      (λ w. Standing k w (plug (contexts_of b.items) (redex_node r)) vs) c.look_at_node.ensures.view
      (stands k v vs b c.args.held.now.node c.args.held.now.places.items c.args.held.now.done.items r h);
}
