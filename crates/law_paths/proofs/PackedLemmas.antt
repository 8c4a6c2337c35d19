-- A deep copy shows what its store shows.
use Rattle.std.specs.Prelude.{◌≡◌, ℕ, zero, suc, ◌<◌, ◌==◌, Bool, true, false, List, [], ◌∷◌, Option, Some, None, length, map}
use Rattle.std.proofs.Common.{refl, sym, ap, subst, ◌∙◌, ⊎_elim}
use Rattle.std.proofs.lemmas.Bool.{eqb-true}
use Rattle.std.proofs.lemmas.List.{length-map}
use Rattle.asp_model.specs.Store.{CellShape, cell, moved_cell, reached}
use Rattle.asp_model.specs.Parcel.{has_place, visit_order, number_in, parcel_of}
use Rattle.law_steps.specs.Linked.{Each}
use Rattle.law_steps.specs.Closed.{AreBelow}
use Rattle.law_chases.proofs.FutureLemmas.{none_true, some_is}
use Rattle.law_steps.proofs.MovedLemmas.{reached_moved, cell_below}
use Rattle.law_steps.proofs.VisitLemmas.{order_visited, number_below}
use Rattle.def_paths.specs.Places.{Place, In_store, Side}
use Rattle.def_paths.specs.Agree.{Pairs}
use Rattle.law_paths.specs.Links.{IsClosedSide, Link}
use Rattle.law_paths.proofs.CellLemmas.{map_map, told_moved, entered_moved}
use Rattle.law_paths.proofs.PairLemmas.{pairs_each}
use Rattle.law_paths.proofs.GrownLemmas.{over, same_stored, stored_apart}
use Rattle.law_paths.proofs.MoveLemmas as Moving

abbrev index : Bool → ℕ → ℕ
index b n = elim b [ true ↦ 0 | false ↦ suc n ]

abbrev or_has : Bool → Bool → Bool
or_has b c = elim b [ true ↦ true | false ↦ c ]

-- what stands at a place's number
pub cell_numbered : (F : ℕ → CellShape) (order : List ℕ) (n : ℕ) → has_place n order ≡ true → cell (map F order) (number_in order n) ≡ F n
cell_numbered F [] n h = none_true h
cell_numbered F (x ∷ xs) n h = by (n == x) refl h (cell_numbered F xs n)
  where
    by : (b : Bool) → (n == x) ≡ b → or_has b (has_place n xs) ≡ true → (has_place n xs ≡ true → cell (map F xs) (number_in xs n) ≡ F n) → cell (F x ∷ map F xs) (index b (number_in xs n)) ≡ F n
    by true e h to = ap F (sym (eqb-true n x e))
    by false e h to = to h

abbrev nth : List ℕ → ℕ → Option ℕ
nth [] k = None
nth (x ∷ xs) zero = Some x
nth (x ∷ xs) (suc k) = nth xs k

nth_numbered : (order : List ℕ) (n : ℕ) → has_place n order ≡ true → nth order (number_in order n) ≡ Some n
nth_numbered [] n h = none_true h
nth_numbered (x ∷ xs) n h = by (n == x) refl h (nth_numbered xs n)
  where
    by : (b : Bool) → (n == x) ≡ b → or_has b (has_place n xs) ≡ true → (has_place n xs ≡ true → nth xs (number_in xs n) ≡ Some n) → nth (x ∷ xs) (index b (number_in xs n)) ≡ Some n
    by true e h to = ap Some (sym (eqb-true n x e))
    by false e h to = to h

one_number : (order : List ℕ) (n m : ℕ) → has_place n order ≡ true → has_place m order ≡ true → number_in order n ≡ number_in order m → n ≡ m
one_number order n m g h e = some_is (sym (nth_numbered order n g) ∙ ap (nth order) e ∙ nth_numbered order m h)

module _ (a : Side) (h : IsClosedSide a) (roots : List ℕ) (below : AreBelow (length a.store) roots) where
  abbrev order : List ℕ
  order = visit_order a.store roots

  abbrev ix : ℕ → ℕ
  ix = number_in order

  abbrev pub copied : Side
  copied = over a (parcel_of a.store roots).cells

  -- it is in the store, and copied
  abbrev pub IsCopied : ℕ → Type 0
  IsCopied j = (j < length a.store) × (has_place j order ≡ true)

  both_copied : (cs : List ℕ) → AreBelow (length a.store) cs → Each (λ q. has_place q order ≡ true) cs → Each IsCopied cs
  both_copied [] x y = tt
  both_copied (c ∷ cs) x y = ((x.0, y.0), both_copied cs x.1 y.1)

  next_copied : (j : ℕ) → IsCopied j → Each IsCopied (reached (cell a.store j))
  next_copied j is = both_copied (reached (cell a.store j)) (cell_below (length a.store) a.store h.store j) (⊎_elim (λ old. none_true old) (λ r. r) ((order_visited a.store h.store roots below).round j is.1))

  abbrev at_number : ℕ → Place
  at_number j = In_store (ix j)

  cell_copied : (j : ℕ) → IsCopied j → cell copied.store (ix j) ≡ moved_cell ix (cell a.store j)
  cell_copied j is = cell_numbered (λ p. moved_cell ix (cell a.store p)) order j is.1

  copied_moves : Moving.Moves copied a.store IsCopied at_number
  copied_moves = record {
    within = λ j is. is.0;
    next = next_copied;
    shown = λ j is. Moving.shown_by copied a.store IsCopied at_number j (moved_cell ix (cell a.store j)) (cell a.store j) refl (cell_copied j is) (sym (entered_moved a.values ix (cell a.store j))) (sym (told_moved a.awaited ix (cell a.store j)))
        (sym (ap (map In_store) (reached_moved ix (cell a.store j)) ∙ map_map ix In_store at_number (λ n. refl) (reached (cell a.store j))));
    good = λ j is. subst (λ n. ix j < n) (sym (length-map order (λ p. moved_cell ix (cell a.store p)))) (number_below order j is.1);
    one = λ j k x y e. one_number order j k x.1 y.1 (same_stored e);
    apart = λ j c q u x y b e d. stored_apart d;
  }

  -- a place of the store that is copied, and where it is in the copy
  abbrev pub Copies : Place → Place → Type 0
  Copies = Moving.WasAt copied a.store IsCopied at_number

  pub copied_link : Link a copied Copies
  copied_link = Moving.moves_link copied a.store IsCopied at_number copied_moves h

  -- the roots stand at their numbers
  pub roots_copied : Pairs Copies (map In_store roots) (map In_store (parcel_of a.store roots).roots)
  roots_copied = subst (Pairs Copies (map In_store roots)) (sym (map_map ix In_store at_number (λ n. refl) roots))
      (pairs_each IsCopied Copies In_store at_number (λ j is. (is.0, is, refl)) roots (both_copied roots below (order_visited a.store h.store roots below).came))
