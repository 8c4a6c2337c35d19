-- What is read at a place.
use Rattle.std.proofs.Common.{◌≡◌, ℕ, zero, suc, ◌≤◌, pos, true, List, [], ◌∷◌, Option, Some, None, length, refl, sym, ap, ◌∙◌, arith}
use Rattle.asp_model.specs.Names.{FutureShape}
use Rattle.asp_model.specs.Parcel.{ParcelShape}
use Rattle.asp_model.specs.Store.{CellShape, Number, Object, Reference, Future, Group, Store, cell}
use Rattle.asp_model.specs.Chase.{chase}
use Rattle.code_table.specs.declared.class.Class.{Class}
use Rattle.code_table.specs.declared.code.Node.{Node}
use Rattle.code_table.specs.Shapes.{class_object, store_of}
use Rattle.def_paths.specs.Places.{Place, In_store, In_value, Side, inner, written, entered, read, found, entered_by, read_by, part, name_by}
use Rattle.def_paths.specs.Places as places
use Rattle.def_paths.specs.StateLines.{is_compound}
use Rattle.state_lines.specs.declared.seen.Seen.{Seen}
use Rattle.state_lines.specs.declared.sights.Sight.{Sight}
use Rattle.state_lines.specs.declared.state.State.{State}
use Rattle.future_table.specs.Values.{values_of}
use Rattle.state_lines.specs.Sights.{Sees, seen_shape}
use Rattle.state_lines.specs.States.{side_in}
use Rattle.state_lines.specs.Texts.{shown_by}
use Rattle.run_ends.specs.Reads.{seen_value}

pub cell_past : (s : Store) (n : ℕ) → length s ≤ n → Number (pos 0) ≡ cell s n
cell_past [] n h = refl
cell_past (c ∷ cs) zero h = absurd (omega arith)
cell_past (c ∷ cs) (suc n) h = cell_past cs n (omega arith)

-- An object is no future, and has something below

pub object_enters : (values : FutureShape → Option ParcelShape) (code : List Node) (ns : List ℕ) (k : Option Class) → None ≡ entered_by values (class_object code ns k)
object_enters values code ns None = refl
object_enters values code ns (Some k) = refl

pub object_compound : (code : List Node) (ns : List ℕ) (k : Option Class) → is_compound (class_object code ns k) ≡ true
object_compound code ns None = refl
object_compound code ns (Some k) = refl

-- Sights

module _ (a : Side) (p : Place) (seen : Seen) (written_there : seen_shape seen ≡ written a p) where
  -- no value is entered
  pub sees_plain : None ≡ entered_by a.values (seen_shape seen) → (s : Sight) → s.seen ≡ seen → seen_value s.value ≡ None → Sees a p s
  sees_plain none s seen_is value_is =
      let none_there : None ≡ entered a p = none ∙ ap (entered_by a.values) written_there in
      record {
        read = ap seen_shape seen_is ∙ written_there ∙ ap (read_by (written a p)) none_there;
        value = value_is ∙ none_there;
      }

-- the root of the value that is entered
pub sees_root : (a : Side) (p : Place) (v : ParcelShape) (s : Sight) → seen_shape s.seen ≡ cell v.cells 0 → seen_value s.value ≡ Some v → Some v ≡ entered a p → Sees a p s
sees_root a p v s read_is value_is there = record {
  read = read_is ∙ ap (read_by (written a p)) there;
  value = value_is ∙ there;
}

-- a cell of a value that is no root
pub written_inside : (a : Side) (q : Place) (v : ParcelShape) (c : ℕ) → entered a q ≡ Some v → cell v.cells (suc c) ≡ written a (inner q (suc c))
written_inside a q v c there = ap (λ (o : Option ParcelShape). part o (suc c)) (sym there)

-- what is found at a place, by the values of futures
pub found_is : (s : State) (p : Place) → found (side_in s) p ≡ shown_by (values_of s.futures.now) (read (side_in s) p)
unfolding side_in
found_is s p = refl

pub compound_told : (awaited : FutureShape → FutureShape) (c : CellShape) → is_compound (places.told awaited c) ≡ is_compound c
compound_told awaited (Number z) = refl
compound_told awaited (Object fs ms) = refl
compound_told awaited (Reference n) = refl
compound_told awaited (Future f) = refl
compound_told awaited (Group ns) = refl

-- a cell of the store is written at its place
pub store_written : (s : State) (p : Place) (i : ℕ) → p ≡ In_store i → cell (store_of s.code.now s.store.now.cells) i ≡ written (side_in s) p
unfolding side_in
store_written s p i e = sym (ap (written (side_in s)) e)

-- what is shown where this is read
pub found_seen : (s : State) (p : Place) (seen : Seen) → seen_shape seen ≡ read (side_in s) p → shown_by (values_of s.futures.now) (seen_shape seen) ≡ found (side_in s) p
found_seen s p seen there = ap (shown_by (values_of s.futures.now)) there ∙ sym (found_is s p)

pub found_compound : (s : State) (p : Place) (seen : Seen) → seen_shape seen ≡ read (side_in s) p → is_compound (found (side_in s) p) ≡ is_compound (seen_shape seen)
found_compound s p seen there =
    sym (ap is_compound (found_seen s p seen there))
    ∙ compound_told (λ (f : FutureShape). name_by (chase (values_of s.futures.now) f)) (seen_shape seen)
