-- A shown value is closed, whatever its code is.
use Rattle.std.proofs.Common.{◌≡◌, ◌&&◌, ℕ, zero, suc, ◌<◌, Bool, true, false, List, [], ◌∷◌, ◌++◌, Option, Some, None, length, take, drop, sym, subst, T, arith, nat_lt, slice_get, refl}
use Rattle.std.specs.List.{list_all}
use Rattle.std.specs.Option.{option_to_list}
use Rattle.std.proofs.lemmas.Bool.Decides.{nat_tests}
use Rattle.asp_model.specs.Store.{reached}
use Rattle.law_steps.specs.Closed.{AreBelow, CellsBelow, IsClosedValue}
use Rattle.code_table.specs.declared.class.Class.{Class}
use Rattle.code_table.specs.declared.code.MethodCode.{MethodCode}
use Rattle.code_table.specs.declared.code.Node.{Node}
use Rattle.code_table.specs.Answers.{AnswerView}
use Rattle.code_table.specs.Classes.{class_at}
use Rattle.code_table.specs.Cells as coded
use Rattle.code_table.specs.Cells.{CodedCell, CodedStore}
use Rattle.code_table.specs.Shapes.{answer_shape, cell_of, class_object, store_of}
use Rattle.code_table.specs.Shown.{MayBeShown, all_under, answer_items, may_hold}
use Rattle.code_table.specs.Sound.{IsSound}
use Rattle.code_table.proofs.CodedLemmas.{length-store_of}
use Rattle.deep_copy.specs.Reached.{captured_places, class_places, used_places}
use Rattle.deep_copy.proofs.MeaningLemmas.{IsSoundClass, sound_class}
use Rattle.deep_copy.proofs.ReachedLemmas.{object_reached}

-- Places below a number

first : (a b : Bool) → (a && b) ≡ true → a ≡ true
first true b h = refl
first false b h = h

second : (a b : Bool) → (a && b) ≡ true → b ≡ true
second true b h = h
second false b h = absurd (subst T (sym h) tt)

under_below : (k : ℕ) (ns : List ℕ) → all_under k ns ≡ true → AreBelow k ns
under_below k [] h = tt
under_below k (n ∷ ns) h =
    let under = first (nat_lt n k) (all_under k ns) h in
    let lt : n < k = grind (arith, nat_tests, under) in
    (lt, under_below k ns (second (nat_lt n k) (all_under k ns) h))

below_append : (k : ℕ) (ns ms : List ℕ) → AreBelow k ns → AreBelow k ms → AreBelow k (ns ++ ms)
below_append k [] ms h g = g
below_append k (n ∷ ns) ms h g = (h.0, below_append k ns ms h.1 g)

below_take : (k size : ℕ) (ns : List ℕ) → AreBelow k ns → AreBelow k (take size ns)
below_take k zero ns h = tt
below_take k (suc size) [] h = tt
below_take k (suc size) (n ∷ ns) h = (h.0, below_take k size ns h.1)

below_drop : (k size : ℕ) (ns : List ℕ) → AreBelow k ns → AreBelow k (drop size ns)
below_drop k zero ns h = h
below_drop k (suc size) [] h = tt
below_drop k (suc size) (n ∷ ns) h = below_drop k size ns h.1

below_slot : (k : ℕ) (ns : List ℕ) (i : ℕ) → AreBelow k ns → AreBelow k (option_to_list (slice_get ns i))
below_slot k [] i h = tt
below_slot k (n ∷ ns) zero h = (h.0, tt)
below_slot k (n ∷ ns) (suc i) h = below_slot k ns i h.1

below_used : (k : ℕ) (ns slots : List ℕ) → AreBelow k ns → AreBelow k (used_places ns slots)
below_used k ns [] h = tt
below_used k ns (i ∷ is) h = below_append k (option_to_list (slice_get ns i)) (used_places ns is)
    (below_slot k ns i h) (below_used k ns is h)

below_captured : (k : ℕ) (ms : List MethodCode) (ns : List ℕ) → AreBelow k ns → AreBelow k (captured_places ms ns)
below_captured k [] ns h = tt
below_captured k (m ∷ ms) ns h =
    let size : ℕ = length m.captured.items in
    below_append k (used_places (take size ns) m.uses.items) (captured_places ms (drop size ns))
    (below_used k (take size ns) m.uses.items (below_take k size ns h))
    (below_captured k ms (drop size ns) (below_drop k size ns h))

below_class : (k : ℕ) (x : Class) (ns : List ℕ) → AreBelow k ns → AreBelow k (class_places x ns)
below_class k x ns h =
    let size : ℕ = length x.fields.items in
    below_append k (take size ns) (captured_places x.methods.items (drop size ns)) (below_take k size ns h)
    (below_captured k x.methods.items (drop size ns) (below_drop k size ns h))

-- Cells

module _ (code : List Node) (sound : IsSound code) where
  object_below : (k : ℕ) (ns : List ℕ) (x : Option Class) → IsSoundClass code x → AreBelow k ns
      → AreBelow k (reached (class_object code ns x))
  object_below k ns None s h = tt
  object_below k ns (Some x) s h = subst (AreBelow k) (object_reached code x ns s) (below_class k x ns h)

  cell_below : (k : ℕ) (c : CodedCell) → may_hold k c ≡ true → AreBelow k (reached (cell_of code c))
  cell_below k (coded.Number n) h = tt
  cell_below k (coded.Object i ns) h = object_below k ns (class_at code i) (sound_class code i sound)
      (under_below k ns h)
  cell_below k (coded.Reference n) h = tt
  cell_below k (coded.Future f) h = tt
  cell_below k (coded.Group ns) h = under_below k ns h

  cells_below : (k : ℕ) (s : CodedStore) → list_all (may_hold k) s ≡ true → CellsBelow k (store_of code s)
  cells_below k [] h = tt
  cells_below k (c ∷ s) h = (
    cell_below k c (first (may_hold k c) (list_all (may_hold k) s) h),
    cells_below k s
        (second (may_hold k c) (list_all (may_hold k) s) h),
  )

  pub shown_closed : (a : AnswerView) → MayBeShown (answer_items a) → IsClosedValue (answer_shape code a)
  shown_closed a m =
      let size = sym (length-store_of code (answer_items a)) in
      record {
        closed = record {
          cells = subst (λ (k : ℕ). CellsBelow k (store_of code (answer_items a))) size
              (cells_below (length (answer_items a)) (answer_items a) m.cells);
          roots = (subst (λ (k : ℕ). 0 < k) size m.some, tt);
        };
        root = refl;
      }
