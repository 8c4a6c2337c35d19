use Rattle.std.proofs.Common.{◌∙◌, ℕ, map, refl, ap}
use Rattle.std.specs.Arc.{arc_value}
use Rattle.code_table.specs.Cells.{moved_coded}
use Rattle.code_table.specs.Moves.{raised}
use Rattle.deep_copy.proofs.UnpackLemmas.{unpacked_coded, roots_coded, closed_coded, fit_coded}
use Rattle.deep_copy.proofs.unpacking.unpack.Goals as goal

pub returns-clause-cells : goal.returns-clause-cells
returns-clause-cells c =
    let p = c.args.parcel in
    let f : ℕ → ℕ = λ n. raised n c.len.result in
    let cells = c.in_ok-append.ensures.cells in
    unpacked_coded (arc_value p.code) c.code_is_sound.ensures.sound c.args.store.now.cells c.append.new.store.cells p.cells.items (map (moved_coded f) p.cells.items) p.roots.items c.len.result c.len.ensures cells refl c.in_ok-append.ensures.fits c.requires.closed

pub returns-clause-roots : goal.returns-clause-roots
returns-clause-roots c =
    let p = c.args.parcel in
    let f : ℕ → ℕ = λ n. raised n c.len.result in
    let cells = c.in_ok-append.ensures.cells in
    c.in_ok-roots.ensures ∙ ap (map f) c.as_slice.ensures.items
    ∙ roots_coded (arc_value p.code) c.code_is_sound.ensures.sound c.args.store.now.cells c.append.new.store.cells p.cells.items (map (moved_coded f) p.cells.items) p.roots.items c.len.result c.len.ensures cells refl c.in_ok-append.ensures.fits c.requires.closed

pub returns-clause-closed : goal.returns-clause-closed
returns-clause-closed c =
    let p = c.args.parcel in
    let f : ℕ → ℕ = λ n. raised n c.len.result in
    let cells = c.in_ok-append.ensures.cells in
    closed_coded (arc_value p.code) c.code_is_sound.ensures.sound c.args.store.now.cells c.append.new.store.cells p.cells.items (map (moved_coded f) p.cells.items) p.roots.items c.len.result c.len.ensures cells refl c.in_ok-append.ensures.fits c.requires.closed

pub returns-clause-fits : goal.returns-clause-fits
returns-clause-fits c =
    let p = c.args.parcel in
    let f : ℕ → ℕ = λ n. raised n c.len.result in
    let cells = c.in_ok-append.ensures.cells in
    fit_coded (arc_value p.code) c.code_is_sound.ensures.sound c.args.store.now.cells c.append.new.store.cells p.cells.items (map (moved_coded f) p.cells.items) p.roots.items c.len.result c.len.ensures cells refl c.in_ok-append.ensures.fits c.requires.closed
