use Rattle.step_machine.specs.Items.{Waits}
use Rattle.step_machine.specs.Standing.{View, view_of}
use Rattle.frozen_code.specs.Restoring.{HasItem, held_view}
use Rattle.frozen_code.proofs.RestoreLemmas.{holds, on_view}
use Rattle.frozen_code.proofs.restoring.hold.Goals as goal

pub returns : goal.returns
returns c = record {
  held = λ k vs x b h.
      let v : View = view_of c.args.machine.now in
      on_view c.push_frame.result (view_of c.push_frame.new.machine) (held_view c.args.held.now.node c.args.held.now.places.items c.args.held.now.done.items v)
      (λ w. HasItem k v w vs vs b (Waits x)) c.push_frame.ensures.view
      (holds k v vs b c.args.held.now.node c.args.held.now.places.items c.args.held.now.done.items x h);
}
