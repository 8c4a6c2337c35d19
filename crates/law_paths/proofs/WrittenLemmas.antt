-- A cell that is written at related places of two sides.
use Rattle.std.specs.Prelude.{◌≡◌, ◌≢◌, ℕ, ◌<◌, None, length, map}
use Rattle.std.proofs.Common.{sym, ap, subst, ◌∙◌, arith, inl, inr, ⊎_elim, ◌⊎◌}
use Rattle.asp_model.specs.Store.{CellShape, with_cell, reached}
use Rattle.law_steps.proofs.MovedLemmas.{length_written}
use Rattle.def_paths.specs.Places.{Place, In_store, In_value, Side, part, read_by, child_by, entered_by, told, written, entered, found, children}
use Rattle.def_paths.specs.Agree.{Pairs}
use Rattle.law_paths.specs.Links.{Good, Link}
use Rattle.law_paths.proofs.CellLemmas.{cell_there, cell_elsewhere}
use Rattle.law_paths.proofs.GrownLemmas.{over, same_stored, stored_apart}
use Rattle.law_paths.proofs.DeliveredLemmas.{number_case}

pub store_case : (p : Place) (i : ℕ) → (p ≡ In_store i) ⊎ (p ≢ In_store i)
store_case (In_store j) i = ⊎_elim (λ e. inl (ap In_store e)) (λ ne. inr (λ d. ne (same_stored d))) (number_case j i)
store_case (In_value q k) i = inr (λ d. stored_apart (sym d))

-- what a written cell needs, there and before: it is not entered
pub record IsWrite (a : Side) (i : ℕ) (c : CellShape) : Type 0 where
  pub low : i < length a.store
  pub before : entered a (In_store i) ≡ None
  pub after : entered_by a.values c ≡ None

abbrev pub wrote : Side → ℕ → CellShape → Side
wrote a i c = over a (with_cell a.store i c)

module _ (a : Side) (i : ℕ) (c : CellShape) (w : IsWrite a i c) where
  entered_there : entered (wrote a i c) (In_store i) ≡ None
  entered_there = ap (entered_by a.values) (cell_there a.store i c w.low) ∙ w.after

  entered_stored : (j : ℕ) → (j ≡ i) ⊎ (j ≢ i) → entered (wrote a i c) (In_store j) ≡ entered a (In_store j)
  entered_stored j (inl e) = ap (λ k. entered (wrote a i c) (In_store k)) e ∙ entered_there ∙ sym (ap (λ k. entered a (In_store k)) e ∙ w.before)
  entered_stored j (inr ne) = ap (entered_by a.values) (cell_elsewhere a.store i j c ne)

  -- a write changes nothing that is entered, and what stands at its place alone
  entered_kept : (p : Place) → entered (wrote a i c) p ≡ entered a p
  entered_kept (In_store j) = entered_stored j (number_case j i)
  entered_kept (In_value q k) = ap (λ o. entered_by a.values (part o k)) (entered_kept q)

  written_kept : (p : Place) → p ≢ In_store i → written (wrote a i c) p ≡ written a p
  written_kept (In_store j) ne = cell_elsewhere a.store i j c (λ e. ne (ap In_store e))
  written_kept (In_value q k) ne = ap (λ o. part o k) (entered_kept q)

  pub still_good : (p : Place) → Good a p → Good (wrote a i c) p
  still_good (In_store j) g = omega (arith, g, length_written a.store i c)
  still_good (In_value q k) g = (still_good q g.0, (g.1.0, entered_kept q ∙ g.1.1, g.1.2))

  abbrev ShowsAs : Place → Type 0
  ShowsAs p = (found (wrote a i c) p ≡ found a p) × (children (wrote a i c) p ≡ children a p)

  pub shows_else : (p : Place) → p ≢ In_store i → ShowsAs p
  shows_else p ne =
      let e = written_kept p ne in
      let d = entered_kept p in
      ((λ k. told a.awaited (read_by (e k) (d k))), (λ k. map (child_by (d k) p) (reached (read_by (e k) (d k)))))

  -- what is shown at the place that was written
  pub shows_there : (found (wrote a i c) (In_store i) ≡ told a.awaited c) × (children (wrote a i c) (In_store i) ≡ map In_store (reached c))
  shows_there =
      let e = cell_there a.store i c w.low in
      let d = entered_there in
      ((λ k. told a.awaited (read_by (e k) (d k))), (λ k. map (child_by (d k) (In_store i)) (reached (read_by (e k) (d k)))))

module _ (a b : Side) (R : Place → Place → Type 0) (l : Link a b R) (i j : ℕ) (c d : CellShape) (r : R (In_store i) (In_store j)) (w : IsWrite a i c) (x : IsWrite b j d)
    (same : told a.awaited c ≡ told b.awaited d) (kids : Pairs R (map In_store (reached c)) (map In_store (reached d))) where
  abbrev Shown : Place → Place → Type 0
  Shown p q = (found (wrote a i c) p ≡ found (wrote b j d) q) × Pairs R (children (wrote a i c) p) (children (wrote b j d) q)

  shown_there : Shown (In_store i) (In_store j)
  shown_there =
      let u = shows_there a i c w in
      let v = shows_there b j d x in
      (u.0 ∙ same ∙ sym v.0, subst (λ ps. Pairs R ps (children (wrote b j d) (In_store j))) (sym u.1) (subst (Pairs R (map In_store (reached c))) (sym v.1) kids))

  shown_else : (p q : Place) → R p q → p ≢ In_store i → q ≢ In_store j → Shown p q
  shown_else p q s ne nf =
      let u = shows_else a i c w p ne in
      let v = shows_else b j d x q nf in
      (u.0 ∙ l.same p q s ∙ sym v.0, subst (λ ps. Pairs R ps (children (wrote b j d) q)) (sym u.1) (subst (Pairs R (children a p)) (sym v.1) (l.next p q s)))

  shown : (p q : Place) → R p q → Shown p q
  shown p q s = ⊎_elim
      (λ e. let f : q ≡ In_store j = l.once (In_store i) q (In_store j) (subst (λ z. R z q) e s) r in
      subst (λ z. Shown z q) (sym e) (subst (Shown (In_store i)) (sym f) shown_there))
      (λ ne. shown_else p q s ne (λ f. ne (l.back p (In_store i) (In_store j) (subst (R p) f s) r)))
      (store_case p i)

  -- cells that show the same may be written at related places of linked sides
  pub write_link : Link (wrote a i c) (wrote b j d) R
  write_link = record {
    left = λ p q s. still_good a i c w p (l.left p q s);
    right = λ p q s. still_good b j d x q (l.right p q s);
    same = λ p q s. (shown p q s).0;
    next = λ p q s. (shown p q s).1;
    once = l.once;
    back = l.back;
  }
