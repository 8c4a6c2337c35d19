use Rattle.std.proofs.Common.{◌<◌, length, sym, ap, subst, ◌∙◌, arith}
use Rattle.code_table.specs.Cells.{CodedCell, CodedStore, coded, moved_coded}
use Rattle.code_table.specs.Moves.{move_of}
use Rattle.object_store.specs.declared.parts.Part.{Part}
use Rattle.object_store.specs.Exchanges.{Exchanges}
use Rattle.object_store.specs.Parts.{part_cells}
use Rattle.object_store.proofs.PartLemmas.{cell_left, put_left, with_length}
use Rattle.object_store.proofs.parts.Part.put_moved.Goals as goal

pub returns-then-number-len-clause-items : goal.returns-then-number-len-clause-items
returns-then-number-len-clause-items c =
    let p : Part = c.args.self.now in
    let lt : c.args.number < length p.own.items = omega (arith, c.if-number-len.true, c.len.ensures) in
    put_left p.own.items p.attached.items c.put_in.new.columns.items c.args.number (moved_coded (move_of c.args.moves.now) (coded c.args.cell)) lt c.in_ok-put_in.ensures.items

pub returns-then-number-len-clause-noted : goal.returns-then-number-len-clause-noted
returns-then-number-len-clause-noted c =
    let p : Part = c.args.self.now in
    let lt : c.args.number < length p.own.items = omega (arith, c.if-number-len.true, c.len.ensures) in
    subst (λ (x : CodedCell). Exchanges x (coded c.args.cell) c.args.at c.args.finder.now c.put_in.new.finder) (sym (cell_left p.own.items p.attached.items c.args.number lt)) c.in_ok-put_in.ensures.noted

pub returns-then-number-len-clause-size : goal.returns-then-number-len-clause-size
returns-then-number-len-clause-size c =
    let p : Part = c.args.self.now in
    let x : CodedCell = moved_coded (move_of c.args.moves.now) (coded c.args.cell) in
    let lt : c.args.number < length p.own.items = omega (arith, c.if-number-len.true, c.len.ensures) in
    ap (λ (s : CodedStore). length s) (put_left p.own.items p.attached.items c.put_in.new.columns.items c.args.number x lt c.in_ok-put_in.ensures.items) ∙ with_length (part_cells p) c.args.number x
