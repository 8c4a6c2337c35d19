use Rattle.std.proofs.Common.{◌≡◌, ◌<◌, ◌+◌, ◌-◌, ◌++◌, length, length-take-le, sym, ap, ◌∙◌, arith}
use Rattle.code_table.specs.Cells.{CodedStore}
use Rattle.code_table.specs.ColumnsView.{ColumnsView}
use Rattle.object_store.specs.Finder.{but_last}
use Rattle.object_store.specs.Parts.{parts_cells}
use Rattle.object_store.proofs.PartLemmas.{but_last_left, but_last_right, whole_length}
use Rattle.object_store.proofs.parted.Parted.pop.Goals as goal

pub returns-then-len-gt0-clause-items : goal.returns-then-len-gt0-clause-items
returns-then-len-gt0-clause-items c =
    let p = c.self.inside in
    let some : 0 < length p.columns.items = omega (arith, c.if-len-gt0.true, c.len.ensures) in
    ap (λ (s : CodedStore). parts_cells p.parts.items ++ s) c.pop.ensures.items ∙ sym (but_last_right (parts_cells p.parts.items) p.columns.items some) ∙ ap (λ (v : ColumnsView). but_last v.items) c.self.view_is

pub pop_of-requires : goal.pop_of-requires
pop_of-requires c =
    let p = c.self.inside in
    let size : length (parts_cells p.parts.items ++ p.columns.items) ≡ p.first + length p.columns.items = whole_length (parts_cells p.parts.items) p.columns.items p.first c.self.invariant.first in
    let whole = ap (λ (v : ColumnsView). length v.items) c.self.view_is in
    record { placed = c.self.invariant.placed; some = omega (arith, size, whole, c.requires.some, c.if-len-gt0.false, c.len.ensures, c.self.invariant.first) }

pub overflow_sub-self : goal.overflow_sub-self
overflow_sub-self c =
    let p = c.self.inside in
    let size : length (parts_cells p.parts.items ++ p.columns.items) ≡ p.first + length p.columns.items = whole_length (parts_cells p.parts.items) p.columns.items p.first c.self.invariant.first in
    let whole = ap (λ (v : ColumnsView). length v.items) c.self.view_is in
    omega (arith, size, whole, c.requires.some, c.if-len-gt0.false, c.len.ensures)

pub invariant_of-self-2 : goal.invariant_of-self-2
invariant_of-self-2 c =
    let p = c.self.inside in
    let t : CodedStore = parts_cells p.parts.items in
    let less : length (but_last t) ≡ length t - 1 = length-take-le (length t - 1) t (omega arith) in
    record {
      placed = c.pop_of.ensures.placed;
      first = ap (λ n. n - 1) c.self.invariant.first ∙ sym less ∙ sym (ap (λ (s : CodedStore). length s) c.pop_of.ensures.cells);
      bound = omega (arith, c.self.invariant.bound);
    }

pub returns-clause-items : goal.returns-clause-items
returns-clause-items c =
    let p = c.self.inside in
    let none : length p.columns.items ≡ 0 = omega (arith, c.if-len-gt0.false, c.len.ensures) in
    ap (λ (s : CodedStore). s ++ p.columns.items) c.pop_of.ensures.cells ∙ but_last_left (parts_cells p.parts.items) p.columns.items none ∙ ap (λ (v : ColumnsView). but_last v.items) c.self.view_is
