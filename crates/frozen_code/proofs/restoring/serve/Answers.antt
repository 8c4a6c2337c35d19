use Rattle.std.proofs.Common.{◌∷◌}
use Rattle.std.specs.Option.{option_map}
use Rattle.code_table.specs.Cells.{held_future}
use Rattle.step_machine.specs.Items.{Suspends, contexts_of}
use Rattle.step_machine.specs.Standing.{View, view_of}
use Rattle.frozen_code.specs.Restoring.{HasItem, served_view}
use Rattle.frozen_code.proofs.RestoreLemmas.{on_view, serves}
use Rattle.frozen_code.proofs.restoring.serve.Goals as goal

pub returns : goal.returns
returns c = record {
  served = λ k vs b.
      let v : View = view_of c.args.machine.now in
      let f = option_map held_future c.args.future in
      on_view c.push_service.result (view_of c.push_service.new.machine) (served_view f v)
      (λ w. HasItem k v w vs (record { contexts = contexts_of b.items; future = f } ∷ vs) b (Suspends f)) c.push_service.ensures.view (serves k v vs b f);
}
