use Rattle.std.proofs.Common.{◌<◌, length, sym, ◌∙◌, arith}
use Rattle.code_table.specs.Cells.{CodedStore}
use Rattle.code_table.specs.Shapes.{store_of}
use Rattle.code_table.proofs.CodedLemmas.{length-store_of}
use Rattle.step_activity.proofs.held.is_clear.Goals as goal

pub returns : goal.returns
returns c = record {
  clear = λ k e.
      let s : CodedStore = c.args.store.now.cells in
      let within : c.args.place < length (store_of k s) = omega (arith, c.if-place-len.false, c.len.ensures, length-store_of k s) in
      (within, sym (c.holds_future.ensures.holds k) ∙ c.if-holds_future.false);
}
