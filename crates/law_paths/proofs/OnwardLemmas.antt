-- What two linked sides lead to: the related cells stay related, and new ones may come.
use Rattle.std.specs.Prelude.{◌≡◌, ℕ, suc, ◌+◌, ◌<◌, false, List, [], ◌∷◌, ◌++◌, None, length, map}
use Rattle.std.proofs.Common.{refl, sym, ap, subst, ◌∙◌, arith, inl, inr, length-append}
use Rattle.asp_model.specs.Names.{FutureShape}
use Rattle.asp_model.specs.Store.{CellShape, Number, Object, Reference, Future, Group, Store, cell, with_cell, moved_cell, reached}
use Rattle.asp_model.specs.Contraction.{is_future}
use Rattle.law_steps.specs.Closed.{AreBelow, CellsBelow}
use Rattle.law_chases.proofs.FutureLemmas.{none_true}
use Rattle.law_steps.proofs.EachLemmas.{below_more}
use Rattle.law_steps.proofs.MovedLemmas.{allotted, written_below, length_written}
use Rattle.def_paths.specs.Places.{Place, In_store, In_value, Side, read_by, child_by, entered_by, told, entered, found, children}
use Rattle.def_paths.specs.Agree.{Pairs, no_pair, pair}
use Rattle.law_paths.specs.Links.{IsClosedSide, Link}
use Rattle.law_paths.specs.Alike.{AlikeCells}
use Rattle.law_paths.proofs.CellLemmas.{cell_back, not_entered}
use Rattle.law_paths.proofs.PairLemmas.{Then, pairs_mapped}
use Rattle.law_paths.proofs.LinkLemmas.{Back, link_back, link_then, Or, Just, link_with}
use Rattle.law_paths.proofs.GrownLemmas.{over, closed_over, same_stored, stored_apart, grown, Grows, grown_link}
use Rattle.law_paths.proofs.WrittenLemmas.{wrote, write_link}
use Rattle.law_paths.proofs.ShapeLemmas.{cell_from, cells_show}

-- the relation of numbers of cells
abbrev pub Stored : (Place → Place → Type 0) → ℕ → ℕ → Type 0
Stored R i j = R (In_store i) (In_store j)

-- two sides, linked and closed
pub record Sides (a b : Side) (R : Place → Place → Type 0) : Type 0 where
  pub link : Link a b R
  pub left : IsClosedSide a
  pub right : IsClosedSide b

-- linked sides whose related cells are those of R, and more
pub record Onward (R : Place → Place → Type 0) (a b : Side) : Type 1 where
  pub rel : Place → Place → Type 0
  pub sides : Sides a b rel
  pub keeps : (i j : ℕ) → Stored R i j → Stored rel i j

abbrev pub here : (a b : Side) (R : Place → Place → Type 0) → Sides a b R → Onward R a b
here a b R s = record { rel = R; sides = s; keeps = λ i j r. r }

pub stored_pairs : (R : Place → Place → Type 0) (xs ys : List ℕ) → Pairs R (map In_store xs) (map In_store ys) → Pairs (Stored R) xs ys
stored_pairs R [] [] ps = no_pair
stored_pairs R [] (y ∷ ys) ps = elim ps [ ]
stored_pairs R (x ∷ xs) [] ps = elim ps [ ]
stored_pairs R (x ∷ xs) (y ∷ ys) (pair r rs) = pair r (stored_pairs R xs ys rs)

pub pairs_stored : (R : Place → Place → Type 0) (xs ys : List ℕ) → Pairs (Stored R) xs ys → Pairs R (map In_store xs) (map In_store ys)
pairs_stored R xs ys = pairs_mapped (Stored R) In_store In_store R (λ i j r. r) xs ys

-- A cell that is not entered

-- what shows of a cell that is no future does not depend on names
pub told_blank : (names : FutureShape → FutureShape) (c : CellShape) → is_future c ≡ false → told names c ≡ moved_cell (λ n. 0) c
told_blank names (Future f) h = none_true (sym h)
told_blank names (Number z) h = refl
told_blank names (Object fs ms) h = refl
told_blank names (Reference n) h = refl
told_blank names (Group ns) h = refl

module _ (a : Side) (i : ℕ) (c : CellShape) (at : cell a.store i ≡ c) (none : entered_by a.values c ≡ None) where
  enters_none : entered a (In_store i) ≡ None
  enters_none = ap (entered_by a.values) at ∙ none

  pub shows_cell : (found a (In_store i) ≡ told a.awaited c) × (children a (In_store i) ≡ map In_store (reached c))
  shows_cell = ((λ k. told a.awaited (read_by (at k) (enters_none k))), (λ k. map (child_by (enters_none k) (In_store i)) (reached (read_by (at k) (enters_none k)))))

-- cells that are not entered, show the same and reach related cells
pub record Showing (a b : Side) (R : Place → Place → Type 0) (c d : CellShape) : Type 0 where
  pub none : entered_by a.values c ≡ None
  pub none_too : entered_by b.values d ≡ None
  pub same : told a.awaited c ≡ told b.awaited d
  pub kids : Pairs (Stored R) (reached c) (reached d)

module _ (a b : Side) (R : Place → Place → Type 0) (s : Sides a b R) where
  -- related cells that are no futures are alike
  pub cells_at : (i j : ℕ) → Stored R i j → is_future (cell a.store i) ≡ false → is_future (cell b.store j) ≡ false → AlikeCells (Stored R) (cell a.store i) (cell b.store j)
  cells_at i j r h k =
      let x = shows_cell a i (cell a.store i) refl (not_entered a.values (cell a.store i) h) in
      let y = shows_cell b j (cell b.store j) refl (not_entered b.values (cell b.store j) k) in
      cell_from (Stored R) (cell a.store i) (cell b.store j) h (sym (told_blank a.awaited (cell a.store i) h) ∙ sym x.0 ∙ s.link.same (In_store i) (In_store j) r ∙ y.0 ∙ told_blank b.awaited (cell b.store j) k)
      (stored_pairs R _ _ (subst (λ ps. Pairs R ps (map In_store (reached (cell b.store j)))) x.1 (subst (Pairs R (children a (In_store i))) y.1 (s.link.next (In_store i) (In_store j) r))))

  -- A new cell

  pub low : (i j : ℕ) → Stored R i j → i < length a.store
  low i j r = s.link.left (In_store i) (In_store j) r

  pub low_too : (i j : ℕ) → Stored R i j → j < length b.store
  low_too i j r = s.link.right (In_store i) (In_store j) r

  new_cell : (t : Store) (c : CellShape) → cell (t ++ c ∷ []) (length t) ≡ c
  new_cell t c = let e : 0 + length t ≡ length t = omega arith in ap (cell (t ++ c ∷ [])) (sym e) ∙ cell_back t (c ∷ []) 0

  one_longer : (t : Store) (c : CellShape) → length t < length (t ++ c ∷ [])
  one_longer t c = omega (arith, length-append t (c ∷ []))

  module _ (u v : Store) where
    abbrev pub GrownPairs : Place → Place → Type 0
    GrownPairs = Then (Then (Back (Grows a s.left u)) R) (Grows b s.right v)

    pub grown_pairs : Link (grown a s.left u) (grown b s.right v) GrownPairs
    grown_pairs = link_then (grown a s.left u) b (grown b s.right v) (Then (Back (Grows a s.left u)) R) (Grows b s.right v)
        (link_then (grown a s.left u) a b (Back (Grows a s.left u)) R (link_back a (grown a s.left u) (Grows a s.left u) (grown_link a s.left u)) s.link) (grown_link b s.right v)

    pub grown_keeps : (i j : ℕ) → Stored R i j → Stored GrownPairs i j
    grown_keeps i j r = (In_store j, (In_store i, (low i j r, low i j r, refl), r), (low_too i j r, low_too i j r, refl))

    -- no new place is related
    none_new : (x : Place) (n : ℕ) → length a.store ≡ n → Grows a s.left u x (In_store n) → ⊥
    none_new (In_store j) n e g = omega (arith, e, g.0, same_stored g.2)
    none_new (In_value q c) n e g = stored_apart (sym g.2)

    none_new_too : (x : Place) (n : ℕ) → length b.store ≡ n → Grows b s.right v x (In_store n) → ⊥
    none_new_too (In_store j) n e g = omega (arith, e, g.0, same_stored g.2)
    none_new_too (In_value q c) n e g = stored_apart (sym g.2)

  pub each_low : (xs ys : List ℕ) → Pairs (Stored R) xs ys → AreBelow (length a.store) xs × AreBelow (length b.store) ys
  each_low _ _ no_pair = (tt, tt)
  each_low _ _ (pair r rs) = let k = each_low _ _ rs in ((low _ _ r, k.0), (low_too _ _ r, k.1))

  -- alike cells show the same
  pub alike_shows : (c d : CellShape) → AlikeCells (Stored R) c d → Showing a b R c d
  alike_shows c d k = let x = cells_show (Stored R) c d k in record {
    none = not_entered a.values c x.2;
    none_too = not_entered b.values d x.3;
    same = told_blank a.awaited c x.2 ∙ x.0 ∙ sym (told_blank b.awaited d x.3);
    kids = x.1;
  }

  -- two new cells that show the same
  module _ (c d : CellShape) (w : Showing a b R c d) where
    abbrev pub with_new : Side
    with_new = over a (a.store ++ c ∷ [])

    abbrev pub with_new_too : Side
    with_new_too = over b (b.store ++ d ∷ [])

    abbrev NewPairs : Place → Place → Type 0
    NewPairs = Or (GrownPairs (c ∷ []) (d ∷ [])) (Just (In_store (length a.store)) (In_store (length b.store)))

    new_sides : Sides with_new with_new_too NewPairs
    new_sides =
        let x = shows_cell with_new (length a.store) c (new_cell a.store c) w.none in
        let y = shows_cell with_new_too (length b.store) d (new_cell b.store d) w.none_too in
        let below = each_low _ _ w.kids in
        record {
          link = link_with with_new with_new_too (GrownPairs (c ∷ []) (d ∷ [])) (grown_pairs (c ∷ []) (d ∷ [])) (In_store (length a.store)) (In_store (length b.store)) (one_longer a.store c) (one_longer b.store d)
              (x.0 ∙ w.same ∙ sym y.0)
              (subst (λ ps. Pairs (GrownPairs (c ∷ []) (d ∷ [])) ps (children with_new_too (In_store (length b.store)))) (sym x.1) (subst (Pairs (GrownPairs (c ∷ []) (d ∷ [])) (map In_store (reached c))) (sym y.1)
              (pairs_mapped (Stored R) In_store In_store (GrownPairs (c ∷ []) (d ∷ [])) (grown_keeps (c ∷ []) (d ∷ [])) _ _ w.kids)))
              (λ z g. none_new (c ∷ []) (d ∷ []) g.1.0 (length a.store) refl g.1.1) (λ z g. none_new_too (c ∷ []) (d ∷ []) g.0 (length b.store) refl g.2);
          left = closed_over a (a.store ++ c ∷ []) s.left (allotted a.store c s.left.store (below_more (length a.store) (suc (length a.store)) (omega arith) (reached c) below.0));
          right = closed_over b (b.store ++ d ∷ []) s.right (allotted b.store d s.right.store (below_more (length b.store) (suc (length b.store)) (omega arith) (reached d) below.1));
        }

    pub new_onward : Onward R with_new with_new_too
    new_onward = record { rel = NewPairs; sides = new_sides; keeps = λ i j r. inl (grown_keeps (c ∷ []) (d ∷ []) i j r) }

    -- the new cells are related
    pub new_related : Stored new_onward.rel (length a.store) (length b.store)
    unfolding new_onward
    new_related = inr (refl, refl)

  -- cells that show the same are written at related places
  pub write_onward : (i j : ℕ) (c d : CellShape) → Stored R i j → is_future (cell a.store i) ≡ false → is_future (cell b.store j) ≡ false → Showing a b R c d → Onward R (wrote a i c) (wrote b j d)
  write_onward i j c d r h k w =
      let below = each_low _ _ w.kids in
      record {
        rel = R;
        sides = record {
          link = write_link a b R s.link i j c d r (record { low = low i j r; before = not_entered a.values (cell a.store i) h; after = w.none }) (record { low = low_too i j r; before = not_entered b.values (cell b.store j) k; after = w.none_too }) w.same (pairs_stored R _ _ w.kids);
          left = closed_over a (with_cell a.store i c) s.left (subst (λ n. CellsBelow n (with_cell a.store i c)) (sym (length_written a.store i c)) (written_below (length a.store) a.store i c s.left.store below.0));
          right = closed_over b (with_cell b.store j d) s.right (subst (λ n. CellsBelow n (with_cell b.store j d)) (sym (length_written b.store j d)) (written_below (length b.store) b.store j d s.right.store below.1));
        };
        keeps = λ i j r. r;
      }
