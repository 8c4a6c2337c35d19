use Rattle.std.proofs.Common.{◌≡◌, ◌-◌, ◌∙◌, drop, length, map, take, sym, ap, arith}
use Rattle.std.specs.Arc.{arc_value}
use Rattle.code_table.specs.Cells.{CodedStore, moved_coded}
use Rattle.code_table.specs.Moves.{shift_of}
use Rattle.object_store.specs.AttachedView.{AttachedView}
use Rattle.object_store.proofs.AttachedLemmas.{attached_first, attached_length}
use Rattle.object_store.proofs.attached.Attached.pop.Goals as goal

pub returns : goal.returns
returns c =
    let a = c.self.inside in
    let f = shift_of a.shift in
    let all : CodedStore = (arc_value a.columns).items in
    let s : CodedStore = map (moved_coded f) (take a.count (drop a.from all)) in
    let size : length s ≡ a.count = attached_length f a.from a.count all c.self.invariant in
    record {
      items = attached_first f (a.count - 1) a.count (drop a.from all) (omega arith) ∙ ap (λ n. take (n - 1) s) (sym size)
          ∙ ap (λ (v : AttachedView). take (length v.items - 1) v.items) c.self.view_is;
    }
