use Rattle.std.proofs.Common.{◌≡◌, ◌<◌, ◌+◌, ◌++◌, ◌∷◌, [], List, length, length-append, map, drop, sym, ap, subst, ◌∙◌, arith}
use Rattle.std.specs.Arc.{arc_value}
use Rattle.code_table.specs.Cells.{CodedStore, moved_coded}
use Rattle.code_table.specs.ColumnsView.{ColumnsView}
use Rattle.code_table.specs.Moves.{shift_of}
use Rattle.object_store.specs.declared.parts.Part.{Part}
use Rattle.object_store.specs.Parts.{ArePlaced, part_cells, parts_cells}
use Rattle.object_store.proofs.AttachedLemmas.{behind_length}
use Rattle.object_store.proofs.PartLemmas.{cells_push, joined, placed_push}
use Rattle.object_store.proofs.parted.Parted.attach.Goals as goal

pub returns-clause-items : goal.returns-clause-items
returns-clause-items c =
    let p = c.self.inside in
    let f = shift_of c.args.shift in
    let t : CodedStore = parts_cells p.parts.items in
    let s : CodedStore = p.columns.items in
    let u : CodedStore = map (moved_coded f) (drop c.args.from (arc_value c.args.shared.now).items) in
    let x : Part = record { start = p.first; own = c.replace-own.result; attached = c.of-attached.result } in
    let own : c.replace-own.result.items ≡ s = ap (λ (v : ColumnsView). v.items) c.replace-own.ensures.value in
    let shared : c.of-attached.result.items ≡ u = c.of-attached.ensures.items ∙ ap (λ (v : ColumnsView). map (moved_coded f) (drop c.args.from v.items)) c.in_ok-columns.ensures in
    let none : c.replace-own.new.dest.items ≡ [] = ap (λ (v : ColumnsView). v.items) c.replace-own.ensures.after ∙ c.new.ensures.items in
    let is = c.push_reserved.ensures.items in
    joined c.reserve.new.self.items c.push_reserved.new.self.items x t s u c.replace-own.new.dest.items is (λ i. own i ++ shared i) none (ap parts_cells c.in_ok-reserve.ensures.items)
    ∙ ap (λ (v : ColumnsView). v.items ++ u) c.self.view_is

pub invariant_of-self-2 : goal.invariant_of-self-2
invariant_of-self-2 c =
    let p = c.self.inside in
    let f = shift_of c.args.shift in
    let all : CodedStore = (arc_value c.args.shared.now).items in
    let ps : List Part = p.parts.items in
    let t : CodedStore = parts_cells ps in
    let s : CodedStore = p.columns.items in
    let u : CodedStore = map (moved_coded f) (drop c.args.from all) in
    let x : Part = record { start = p.first; own = c.replace-own.result; attached = c.of-attached.result } in
    let own : c.replace-own.result.items ≡ s = ap (λ (v : ColumnsView). v.items) c.replace-own.ensures.value in
    let shared : c.of-attached.result.items ≡ u = c.of-attached.ensures.items ∙ ap (λ (v : ColumnsView). map (moved_coded f) (drop c.args.from v.items)) c.in_ok-columns.ensures in
    let now : c.push_reserved.new.self.items ≡ ps ++ x ∷ [] = c.push_reserved.ensures.items ∙ ap (λ (l : List Part). l ++ x ∷ []) c.in_ok-reserve.ensures.items in
    let size : length (part_cells x) ≡ length s + length u = ap (λ (v : CodedStore). length v) (λ i. own i ++ shared i) ∙ length-append s u in
    let many : c.args.from + length u ≡ length all = behind_length f c.args.from all c.requires.within in
    let held : c.len.result ≡ length all = c.len.ensures ∙ ap (λ (v : ColumnsView). length v.items) c.deref.ensures in
    let some : 0 < length (part_cells x) = omega (arith, size, many, held, c.if-count-eq0.false) in
    let start : x.start ≡ 0 + length t = omega (arith, c.self.invariant.first) in
    let before : length (t ++ s) ≡ length c.args.self.now.items = ap (λ (v : ColumnsView). length v.items) c.self.view_is in
    let after : length (parts_cells c.push_reserved.new.self.items) ≡ length t + length (part_cells x) = ap (λ (l : List Part). length (parts_cells l)) now ∙ ap (λ (v : CodedStore). length v) (cells_push ps x) ∙ length-append t (part_cells x) in
    record {
      placed = subst (ArePlaced 0) (sym now) (placed_push 0 ps x c.self.invariant.placed start some);
      first = omega (arith, c.in_ok-first.ensures.sum, c.len-2.ensures, before, length-append t s, after, size, many, held);
      bound = c.in_ok-first.ensures.bound;
    }
