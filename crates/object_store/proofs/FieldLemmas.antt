-- Fields by their numbers.
use Rattle.std.proofs.Common.{◌≡◌, ℕ, zero, suc, ◌<◌, List, [], ◌∷◌, length, drop, refl, sym, ap, ◌∙◌, arith, slice_set, Some}
use Rattle.asp_model.specs.Names.{Text}
use Rattle.asp_model.specs.Store as store
use Rattle.asp_model.specs.Store.{CellShape, with_cell}
use Rattle.asp_model.specs.Contraction.{with_field}
use Rattle.code_table.specs.declared.code.Node.{Node}
use Rattle.code_table.specs.declared.class.Class.{Class}
use Rattle.code_table.specs.Tables.{object_of, pieces, seen_methods}
use Rattle.code_table.specs.Classes.{field_number}
use Rattle.code_table.proofs.LookupLemmas.{field_put, field_within}
use Rattle.code_table.specs.Cells.{CodedCell, cell_at, with_place_at}
use Rattle.code_table.specs.Shapes.{cell_of, store_of, class_object}
use Rattle.code_table.proofs.CodedLemmas.{cell-store_of, store_of-with}
use Rattle.object_store.specs.Fields.{PlacesSetAreFieldsSet}

drop_set : (k i n : ℕ) (ns : List ℕ) → i < k → drop k (slice_set ns i n) ≡ drop k ns
drop_set zero i n ns lt = absurd (omega (arith, lt))
drop_set (suc k) i n [] lt = refl
drop_set (suc k) zero n (m ∷ ms) lt = refl
drop_set (suc k) (suc i) n (m ∷ ms) lt = let less : i < k = omega (arith, lt) in drop_set k i n ms less

abbrev with_field_in : Text → ℕ → CellShape → CellShape
with_field_in l n (store.Object fields methods) = store.Object (with_field l n fields) methods
with_field_in l n c = c

pub object_set : (code : List Node) (k : Class) (l : Text) (i n : ℕ) (ns : List ℕ) → field_number l k ≡ Some i → object_of (pieces code) k (slice_set ns i n) ≡ with_field_in l n (object_of (pieces code) k ns)
object_set code k l i n ns e =
    λ j. store.Object (sym (field_put l n k ns i e) j) (seen_methods (pieces code) k.methods.items (drop_set (length k.fields.items) i n ns (field_within l k i e) j))

pub places_set : PlacesSetAreFieldsSet
places_set code s p i n l c ns k fields methods at class number is =
    let seen : store.Object fields methods ≡ object_of (pieces code) k ns = sym is ∙ cell-store_of code s p ∙ ap (cell_of code) at ∙ ap (class_object code ns) class in
    let set : cell_of code (with_place_at i n (cell_at s p)) ≡ object_of (pieces code) k (slice_set ns i n) = ap (λ (d : CodedCell). cell_of code (with_place_at i n d)) at ∙ ap (class_object code (slice_set ns i n)) class in
    store_of-with code s p (with_place_at i n (cell_at s p)) ∙ ap (with_cell (store_of code s) p) (set ∙ object_set code k l i n ns number ∙ sym (ap (with_field_in l n) seen))
