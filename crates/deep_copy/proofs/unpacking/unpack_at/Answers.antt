use Rattle.std.proofs.Common.{ℕ, map, refl}
use Rattle.std.specs.Arc.{arc_value}
use Rattle.code_table.specs.Cells.{moved_coded}
use Rattle.code_table.specs.Moves.{raised_at}
use Rattle.deep_copy.proofs.UnpackLemmas.{root_coded, closed_root_coded, fit_root_coded}
use Rattle.deep_copy.proofs.unpacking.unpack_at.Goals as goal

pub returns-clause-cells : goal.returns-clause-cells
returns-clause-cells c =
    let p = c.args.parcel.now in
    let f : ℕ → ℕ = raised_at c.len.result c.args.loc in
    let cells = c.in_ok-graft.ensures.cells in
    root_coded (arc_value p.code) c.code_is_sound.ensures.sound c.args.store.now.cells c.graft.new.store.cells p.cells.items (map (moved_coded f) p.cells.items) p.roots.items c.args.loc c.len.result c.len.ensures cells refl c.in_ok-graft.ensures.fits c.requires.value.closed.cells

pub returns-clause-closed : goal.returns-clause-closed
returns-clause-closed c =
    let p = c.args.parcel.now in
    let f : ℕ → ℕ = raised_at c.len.result c.args.loc in
    let cells = c.in_ok-graft.ensures.cells in
    closed_root_coded (arc_value p.code) c.code_is_sound.ensures.sound c.args.store.now.cells c.graft.new.store.cells p.cells.items (map (moved_coded f) p.cells.items) p.roots.items c.args.loc c.len.result c.len.ensures cells refl c.in_ok-graft.ensures.fits c.requires.value.closed.cells c.requires.within

pub returns-clause-fits : goal.returns-clause-fits
returns-clause-fits c =
    let p = c.args.parcel.now in
    let f : ℕ → ℕ = raised_at c.len.result c.args.loc in
    let cells = c.in_ok-graft.ensures.cells in
    fit_root_coded (arc_value p.code) c.code_is_sound.ensures.sound c.args.store.now.cells c.graft.new.store.cells p.cells.items (map (moved_coded f) p.cells.items) p.roots.items c.args.loc c.len.result c.len.ensures cells refl c.in_ok-graft.ensures.fits c.requires.value.closed.cells
