use Rattle.std.proofs.Common.{◌≡◌, ◌-◌, slice_set, subst, arith}
use Rattle.std.specs.Bool.{OnFalse, OnTrue}
use Rattle.std.proofs.lemmas.Result.{IfOk-weaker, on_err_weaker}
use Rattle.code_table.specs.Cells.{CodedCell, cell_at, coded, moved_coded, with_cell_at}
use Rattle.code_table.specs.Moves.{move_of}
use Rattle.object_store.specs.declared.parts.Part.{Part}
use Rattle.object_store.specs.Exchanges.{Exchanges}
use Rattle.object_store.specs.Parts.{part_cells, parts_cells}
use Rattle.object_store.proofs.PartLemmas.{cell_there, cells_same, placed_again, put_again, when_false, when_true}
use Rattle.object_store.proofs.parts.put_moved_in.Goals as goal

pub index-requires : goal.index-requires
index-requires c = omega (arith, c.part_at-number.ensures.part.within, c.args.parts.now.ok.0)

pub put_moved-requires : goal.put_moved-requires
put_moved-requires c =
    let there = cell_there c.args.parts.now.items c.args.at c.part_at-number.result c.index.result.now c.index_mut.result.now c.requires.placed c.requires.within c.part_at-number.ensures.part c.index.ensures c.index_mut.ensures.value in
    record { within = there.0 }

pub returns-clause-items : goal.returns-clause-items
returns-clause-items c =
    let ps = c.args.parts.now.items in
    let k = c.part_at-number.result in
    let e : Part = c.index.result.now in
    let d : Part = c.index_mut.result.now in
    let x : Part = c.put_moved.new.self in
    let moved : CodedCell = moved_coded (move_of c.args.moves.now) (coded c.args.cell) in
    IfOk-weaker c.put_moved.result (λ r. OnTrue r (part_cells x ≡ with_cell_at (part_cells d) (c.args.at - e.start) moved)) (λ r. OnTrue r (parts_cells (slice_set ps k x) ≡ with_cell_at (parts_cells ps) c.args.at moved))
    (λ r. when_true r (put_again ps c.args.at k e d x moved c.requires.placed c.requires.within c.part_at-number.ensures.part c.index.ensures c.index_mut.ensures.value))
    c.put_moved.ensures.items

pub returns-clause-noted : goal.returns-clause-noted
returns-clause-noted c =
    let ps = c.args.parts.now.items in
    let k = c.part_at-number.result in
    let e : Part = c.index.result.now in
    let d : Part = c.index_mut.result.now in
    let x : Part = c.put_moved.new.self in
    let is : CodedCell = coded c.args.cell in
    let there = cell_there ps c.args.at k e d c.requires.placed c.requires.within c.part_at-number.ensures.part c.index.ensures c.index_mut.ensures.value in
    IfOk-weaker c.put_moved.result (λ r. OnTrue r (Exchanges (cell_at (part_cells d) (c.args.at - e.start)) is c.args.at c.args.finder.now c.put_moved.new.finder)) (λ r. OnTrue r (Exchanges (cell_at (parts_cells ps) c.args.at) is c.args.at c.args.finder.now c.put_moved.new.finder))
    (λ r. when_true r (subst (λ (y : CodedCell). Exchanges y is c.args.at c.args.finder.now c.put_moved.new.finder) there.1))
    c.put_moved.ensures.noted

pub returns-clause-same : goal.returns-clause-same
returns-clause-same c =
    let ps = c.args.parts.now.items in
    let k = c.part_at-number.result in
    let d : Part = c.index_mut.result.now in
    let x : Part = c.put_moved.new.self in
    IfOk-weaker c.put_moved.result (λ r. OnFalse r (part_cells x ≡ part_cells d)) (λ r. OnFalse r (parts_cells (slice_set ps k x) ≡ parts_cells ps))
    (λ r. when_false r (cells_same ps k d x c.part_at-number.ensures.part.within c.index_mut.ensures.value))
    c.put_moved.ensures.same

pub returns-clause-err : goal.returns-clause-err
returns-clause-err c =
    let ps = c.args.parts.now.items in
    on_err_weaker c.put_moved.result (cells_same ps c.part_at-number.result c.index_mut.result.now c.put_moved.new.self c.part_at-number.ensures.part.within c.index_mut.ensures.value) c.put_moved.ensures.err

pub returns-clause-placed : goal.returns-clause-placed
returns-clause-placed c =
    placed_again c.args.parts.now.items c.part_at-number.result c.index_mut.result.now c.put_moved.new.self c.requires.placed c.part_at-number.ensures.part.within c.index_mut.ensures.value c.put_moved.ensures.start c.put_moved.ensures.size
