-- Values that come to each place that holds a future.
use Rattle.std.proofs.Common.{◌≡◌, ◌+◌, ◌<◌, ◌≤◌, ℕ, zero, suc, Bool, true, false, List, [], ◌∷◌, Option, Some, None, add-one, drop, get_or, length, length-append, map, refl, sym, ap, subst, ◌∙◌, T, arith}
use Rattle.std.proofs.Math.Seq.{drop-cons}
use Rattle.std.proofs.lemmas.List.{drop_all}
use Rattle.std.specs.Arc.{arc_value}
use Rattle.asp_model.specs.Configuration.{Activity, RequestShape}
use Rattle.asp_model.specs.Names.{FutureShape, same_future}
use Rattle.asp_model.specs.Parcel.{ParcelShape, unpack_at, with_cells_at, place_at}
use Rattle.asp_model.specs.Store.{CellShape, Store, moved_cell, with_cell}
use Rattle.code_table.specs.Cells as coded
use Rattle.code_table.specs.Cells.{CodedCell, CodedStore}
use Rattle.code_table.specs.Shapes.{cell_of, class_object, store_of}
use Rattle.code_table.proofs.CodedLemmas.{length-store_of}
use Rattle.def_journals.specs.Deliveries as model
use Rattle.def_journals.specs.Deliveries.{is_held, unpack_each}
use Rattle.law_steps.specs.Closed.{AreBelow}
use Rattle.law_steps.proofs.MovedLemmas.{length_written}
use Rattle.law_chases.proofs.FutureLemmas.{future_itself, futures_tied}
use Rattle.object_store.specs.Holders.{holders, holders_from, is_future}
use Rattle.code_table.specs.Classes.{class_at}
use Rattle.code_table.specs.declared.class.Class.{Class}
use Rattle.code_table.specs.declared.code.Node.{Node}
use Rattle.step_activity.specs.declared.actor.Actor.{Actor}
use Rattle.step_activity.specs.Actors.{Stands}

-- Who holds a future

same_flip : (f g : FutureShape) → same_future f g ≡ same_future g f
same_flip f g = by (same_future f g) refl (same_future g f) refl
  where
    apart : (x y : FutureShape) → same_future x y ≡ true → same_future y x ≡ false → ⊥
    apart x y a b = subst T (sym (ap (λ z. same_future z x) (sym (futures_tied x y a)) ∙ future_itself x) ∙ b) tt

    by : (a : Bool) → same_future f g ≡ a → (b : Bool) → same_future g f ≡ b → a ≡ b
    by true d true e = refl
    by true d false e = absurd (apart f g d e)
    by false d true e = absurd (apart g f e d)
    by false d false e = refl

object_held : (code : List Node) (f : FutureShape) (ns : List ℕ) (o : Option Class) → false ≡ is_held f (class_object code ns o)
object_held code f ns None = refl
object_held code f ns (Some k) = refl

-- a cell holds it by the code or without
held_so : (code : List Node) (f : FutureShape) (c : CodedCell) → is_future f c ≡ is_held f (cell_of code c)
held_so code f (coded.Future g) = same_flip g f
held_so code f (coded.Number z) = refl
held_so code f (coded.Object k ns) = object_held code f ns (class_at code k)
held_so code f (coded.Reference n) = refl
held_so code f (coded.Group ns) = refl

held_from : (code : List Node) (n : ℕ) (f : FutureShape) (cs : CodedStore) → holders_from n f cs ≡ model.holders_from n f (store_of code cs)
held_from code n f [] = refl
held_from code n f (c ∷ cs) = λ i. elim (held_so code f c i) [
  | true ↦ n ∷ held_from code (suc n) f cs i
  | false ↦ held_from code (suc n) f cs i
]

pub held : (code : List Node) (f : FutureShape) (cs : CodedStore) (s : Store) → store_of code cs ≡ s → holders f cs ≡ model.holders_from 0 f s
held code f cs s is = held_from code 0 f cs ∙ ap (model.holders_from 0 f) is

below_from : (n : ℕ) (f : FutureShape) (cs : CodedStore) → AreBelow (n + length cs) (holders_from n f cs)
below_from n f [] = tt
below_from n f (c ∷ cs) =
    let e : suc n + length cs ≡ n + suc (length cs) = omega arith in
    let rest = subst (λ (m : ℕ). AreBelow m (holders_from (suc n) f cs)) e (below_from (suc n) f cs) in
    elim (is_future f c) as (λ b. AreBelow (n + suc (length cs)) (elim b [ true ↦ n ∷ holders_from (suc n) f cs | false ↦ holders_from (suc n) f cs ])) [ true ↦ (omega arith, rest) | false ↦ rest ]

-- who holds it is in the store
pub holders_below : (f : FutureShape) (cs : CodedStore) → AreBelow (length cs) (holders f cs)
holders_below f cs = let e : 0 + length cs ≡ length cs = omega arith in subst (λ (m : ℕ). AreBelow m (holders f cs)) e (below_from 0 f cs)

-- One place after the other

pub below_at : (k : ℕ) (ns : List ℕ) (i : ℕ) → AreBelow k ns → i < length ns → get_or ns i 0 < k
below_at k [] i h lt = absurd (omega (arith, lt))
below_at k (n ∷ ns) zero h lt = h.0
below_at k (n ∷ ns) (suc i) h lt = below_at k ns i h.1 (omega (arith, lt))

cells_longer : (s : Store) (n : ℕ) (cs : List CellShape) → length s ≤ length (with_cells_at s n cs)
cells_longer s n [] = omega arith
cells_longer s n (c ∷ cs) = omega (arith, length-append (with_cell s n c) cs, length_written s n c)

pub unpacked_longer : (s : Store) (n : ℕ) (p : ParcelShape) → length s ≤ length (unpack_at s n p)
unpacked_longer s n p = cells_longer s n (map (moved_cell (place_at (length s) n)) p.cells)

-- the first of these places have the value: the actor stands over that store
pub record IsFilling (a : Activity) (rs : List RequestShape) (ns : List ℕ) (i : ℕ) (p : ParcelShape) (x : Actor) : Type 0 where
  pub store : Store
  pub stands : Stands x (record a { store = store }) rs
  pub left : unpack_each a.store ns p ≡ unpack_each store (drop i ns) p
  pub longer : length a.store ≤ length store

pub filling : (a : Activity) (rs : List RequestShape) (ns : List ℕ) (p : ParcelShape) (x : Actor) → Stands x a rs → IsFilling a rs ns 0 p x
filling a rs ns p x h = record { store = a.store; stands = h; left = refl; longer = omega arith }

module _ (a : Activity) (rs : List RequestShape) (ns : List ℕ) (i : ℕ) (p : ParcelShape) (x : Actor) (w : IsFilling a rs ns i p x) where
  pub fills_on : (y : Actor) → i < length ns → Stands y (record a { store = unpack_at w.store (get_or ns i 0) p }) rs → IsFilling a rs ns (i + 1) p y
  fills_on y lt stands =
      let n : ℕ = get_or ns i 0 in
      record {
        store = unpack_at w.store n p;
        stands = stands;
        left = w.left ∙ ap (λ (ms : List ℕ). unpack_each w.store ms p) (drop-cons ns i 0 lt) ∙ ap (λ (j : ℕ). unpack_each (unpack_at w.store n p) (drop j ns) p) (sym (add-one i));
        longer = omega (arith, w.longer, unpacked_longer w.store n p);
      }

  pub all_filled : length ns ≤ i → Stands x (record a { store = unpack_each a.store ns p }) rs
  all_filled le = subst (λ (s : Store). Stands x (record a { store = s }) rs) (sym (w.left ∙ ap (λ (ms : List ℕ). unpack_each w.store ms p) (drop_all i ns le))) w.stands

  -- the next place is in the store
  pub next_within : (cells : CodedStore) → store_of (arc_value x.activity.code) cells ≡ w.store → (k : ℕ) → k ≡ length a.store → AreBelow k ns → i < length ns → get_or ns i 0 < length cells
  next_within cells is k size below lt = omega (arith, below_at k ns i below lt, size, w.longer, ap length is, length-store_of (arc_value x.activity.code) cells)
