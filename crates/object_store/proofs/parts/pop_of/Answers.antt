use Rattle.std.proofs.Common.{◌≡◌, ◌<◌, ◌+◌, ◌++◌, ◌∷◌, [], List, length, sym, ap, subst, ◌∙◌}
use Rattle.object_store.specs.declared.parts.Part.{Part}
use Rattle.object_store.specs.Finder.{but_last}
use Rattle.object_store.specs.Parts.{ArePlaced, part_cells, parts_cells}
use Rattle.object_store.proofs.PartLemmas.{less, none_left, placed_front, placed_last, placed_push}
use Rattle.object_store.proofs.parts.pop_of.Goals as goal

pub pop-requires-in-Some : goal.pop-requires-in-Some
pop-requires-in-Some c = record { some = (placed_last 0 _ c.in-Some.part (subst (ArePlaced 0) c.in-Some.ensures.items c.requires.placed)).1 }

pub returns-then-not-is_empty-clause-cells : goal.returns-then-not-is_empty-clause-cells
returns-then-not-is_empty-clause-cells c =
    let ps : List Part = c.pop.new.self.items in
    let x : Part = c.in-Some.part in
    let y : Part = c.pop-in-Some.new.self in
    let last = placed_last 0 ps x (subst (ArePlaced 0) c.in-Some.ensures.items c.requires.placed) in
    ap parts_cells c.push_reserved.ensures.items ∙ less ps x y last.1 c.pop-in-Some.ensures.cells ∙ ap (λ (l : List Part). but_last (parts_cells l)) (sym c.in-Some.ensures.items)

pub returns-then-not-is_empty-clause-placed : goal.returns-then-not-is_empty-clause-placed
returns-then-not-is_empty-clause-placed c =
    let ps : List Part = c.pop.new.self.items in
    let x : Part = c.in-Some.part in
    let y : Part = c.pop-in-Some.new.self in
    let whole : ArePlaced 0 (ps ++ x ∷ []) = subst (ArePlaced 0) c.in-Some.ensures.items c.requires.placed in
    let last = placed_last 0 ps x whole in
    let start : y.start ≡ 0 + length (parts_cells ps) = c.pop-in-Some.ensures.start ∙ last.0 in
    let some : 0 < length (part_cells y) = c.if-not-is_empty.ensures.some in
    subst (ArePlaced 0) (sym c.push_reserved.ensures.items) (placed_push 0 ps y (placed_front 0 ps x whole) start some)

pub returns-else-not-is_empty-clause-cells : goal.returns-else-not-is_empty-clause-cells
returns-else-not-is_empty-clause-cells c =
    let ps : List Part = c.pop.new.self.items in
    let x : Part = c.in-Some.part in
    let y : Part = c.pop-in-Some.new.self in
    let last = placed_last 0 ps x (subst (ArePlaced 0) c.in-Some.ensures.items c.requires.placed) in
    let none : length (part_cells y) ≡ 0 = c.if-not-is_empty.ensures.empty in
    none_left ps x y last.1 c.pop-in-Some.ensures.cells none ∙ ap (λ (l : List Part). but_last (parts_cells l)) (sym c.in-Some.ensures.items)

pub returns-else-not-is_empty-clause-placed : goal.returns-else-not-is_empty-clause-placed
returns-else-not-is_empty-clause-placed c =
    placed_front 0 c.pop.new.self.items c.in-Some.part (subst (ArePlaced 0) c.in-Some.ensures.items c.requires.placed)
