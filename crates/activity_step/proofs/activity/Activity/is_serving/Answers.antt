use Rattle.std.proofs.Common.{◌≡◌, List, not, Option, length, map, sym, ap, ◌∙◌}
use Rattle.std.specs.Option.{option_map}
use Rattle.std.proofs.lemmas.List.{length-map}
use Rattle.asp_model.specs.Names.{FutureShape}
use Rattle.code_table.specs.Cells.{held_future}
use Rattle.activity_step.proofs.NewestLemmas.{is_suspended}
use Rattle.activity_step.proofs.activity.Activity.is_serving.Goals as goal

pub returns : goal.returns
returns c = record {
  serving = λ a h.
      let fs = c.args.self.now.state.machine.futures in
      let shapes : List (Option FutureShape) = map (option_map held_future) fs.items in
      let size : length fs.items ≡ length shapes = sym (length-map fs.items (option_map held_future)) in
      ap not c.is_empty.ensures ∙ is_suspended (length fs.items) shapes h.state.machine.items a.services size h.state.machine.futures h.state.machine.suspended;
}
