use Rattle.std.proofs.Common.{◌<◌, ◌++◌, length, ap, ◌∙◌, arith}
use Rattle.code_table.specs.Cells.{CodedStore, cell_at, with_place_at}
use Rattle.object_store.specs.declared.parts.Part.{Part}
use Rattle.object_store.specs.Parts.{part_cells}
use Rattle.object_store.proofs.PartLemmas.{set_left, with_length}
use Rattle.object_store.proofs.parts.Part.set_place.Goals as goal

pub returns-then-number-len-clause-set : goal.returns-then-number-len-clause-set
returns-then-number-len-clause-set c =
    let p : Part = c.args.self.now in
    let lt : c.args.number < length p.own.items = omega (arith, c.if-number-len.true, c.len.ensures) in
    ap (λ (s : CodedStore). s ++ p.attached.items) c.set_place.ensures.items ∙ set_left p.own.items p.attached.items c.args.number c.args.index c.args.to lt

pub returns-then-number-len-clause-size : goal.returns-then-number-len-clause-size
returns-then-number-len-clause-size c =
    let p : Part = c.args.self.now in
    let s = part_cells p in
    let n = c.args.number in
    let lt : n < length p.own.items = omega (arith, c.if-number-len.true, c.len.ensures) in
    ap (λ (s : CodedStore). length s) (ap (λ (s : CodedStore). s ++ p.attached.items) c.set_place.ensures.items ∙ set_left p.own.items p.attached.items n c.args.index c.args.to lt)
    ∙ with_length s n (with_place_at c.args.index c.args.to (cell_at s n))
