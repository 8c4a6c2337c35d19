-- Splitting a seat keeps the rule: the new view is true of the value, and each number still stands once.
use Rattle.std.proofs.Common.{◌≡◌, ◌≢◌, ◌⊎◌, ℕ, ◌+◌, ◌<◌, List, [], ◌∷◌, ◌++◌, length, set, refl, sym, ◌∙◌, subst, ⊎_elim, inl, inr, arith, Option, None, Some}
use mathlib.Core.Option.{some}
use lib.ListN.{get_elem?}
use Rattle.atomic_table.specs.Table.{Splits}
use Rattle.atomic_table.proofs.Lists.{at_set, set_else, at_snoc, at_longer}
use Rattle.asp_model.specs.History.{HistoryShape}
use Rattle.turn_hub.specs.declared.view.View.{View}
use Rattle.turn_hub.specs.Numbers.{times}
use Rattle.turn_hub.specs.Sharing.{HasOut, Covers, IsAway, IsShared, kept_numbers, cut_numbers, kept_view, cut_view}
use Rattle.turn_hub.proofs.TotalLemmas.{total-set, total-snoc}
use Rattle.turn_hub.proofs.ViewLemmas.{Shelf, not_owner, place_kept}

module _ {H : Type 0} (history : H → HistoryShape) (out : H → ℕ → Option (ℕ × ℕ × ℕ)) where
  has_out_cut : (ns : List ℕ) (h : H) (o : Option (ℕ × ℕ × ℕ)) → 1 < length ns → HasOut history out h ns o → HasOut history out h (kept_numbers ns) o × HasOut history out h (cut_numbers ns) None
  has_out_cut [] h o two x = absurd (omega arith)
  has_out_cut (n ∷ []) h o two x = absurd (omega arith)
  has_out_cut (n ∷ k ∷ ns) h o two x = ((x.0, x.1.1), (x.1.0, tt))

times-cut : (n : ℕ) (ns : List ℕ) → 1 < length ns → times n (kept_numbers ns) + times n (cut_numbers ns) ≡ times n ns
times-cut n [] two = absurd (omega arith)
times-cut n (m ∷ []) two = absurd (omega arith)
times-cut n (m ∷ k ∷ ns) two = omega arith

length-cut : (ns : List ℕ) → 1 < length ns → length (kept_numbers ns) + length (cut_numbers ns) ≡ length ns
length-cut [] two = absurd (omega arith)
length-cut (m ∷ []) two = absurd (omega arith)
length-cut (m ∷ k ∷ ns) two = omega arith

-- each view is one of the halves, or stood there before
after_cut : {H : Type 0} (s : Shelf H) (id : ℕ) (left right : View H) (P : ℕ → View H → Type 0) → P id left → ((j : ℕ) → P j right) → ((j : ℕ) (u : View H) → get_elem? s.views j ≡ some u → P j u)
    → (j : ℕ) (u : View H) → get_elem? (set s.views id left ++ right ∷ []) j ≡ some u → P j u
after_cut s id left right P at_left at_right before j u found = ⊎_elim
    (λ kept. ⊎_elim
    (λ (t : (j ≡ id) × (left ≡ u)). subst (λ i. P i u) (sym t.0) (subst (P id) t.1 at_left))
    (λ (t : (j ≢ id) × (get_elem? s.views j ≡ some u)). before j u t.1)
    (at_set s.views id j left u kept))
    (λ (is : right ≡ u). subst (P j) is (at_right j))
    (at_snoc (set s.views id left) right u j found)

pub splits : {H : Type 0} (history : H → HistoryShape) (out : H → ℕ → Option (ℕ × ℕ × ℕ)) (keeps : H → H → Type 0) (first : H) (seats id : ℕ) (v : View H) → v.taken ≡ None → 1 < length v.numbers → Splits (IsShared history out keeps first seats) id v (kept_view v) (cut_view v)
splits {H = H} history out keeps first seats id v idle two s r at =
    let left = kept_view v in
    let right = cut_view v in
    let views : List (View H) = set s.views id left ++ right ∷ [] in
    let cover = r.covers id v at (omega arith) in
    let h = r.value in
    let halves = has_out_cut history out v.numbers h v.out two cover.has_out in
    let left_covers : Covers history out h left = record { later = cover.later; told = cover.told; has_out = halves.0 } in
    let right_covers : Covers history out h right = record { later = cover.later; told = tt; has_out = halves.1 } in
    let still = after_cut s id left right (λ j u. (u.taken ≡ None) ⊎ (get_elem? s.views j ≡ some u)) (inl idle) (λ j. inl refl) (λ j u found. inr found) in
    let there : (away : IsAway history out h s) → get_elem? views away.owner ≡ some away.view = λ away.
    at_longer (set s.views id left) (right ∷ []) away.owner away.view (set_else s.views id away.owner left (not_owner history out s h away id v idle at) ∙ away.there) in record {
      value = h;
      place = place_kept history out s h views still there r.place;
      kept = r.kept;
      opened = after_cut s id left right (λ j u. 0 < length u.numbers → u.opened ≡ Some first) (λ live. r.opened id v at (omega arith)) (λ j live. r.opened id v at (omega arith)) r.opened;
      covers = after_cut s id left right (λ j u. 0 < length u.numbers → Covers history out h u) (λ live. left_covers) (λ j live. right_covers) r.covers;
      once = λ n.
          let f : View H → ℕ = λ u. times n u.numbers in
          let longer = total-snoc f (set s.views id left) right in
          let changed = total-set f s.views id v left at in
          let cut = times-cut n v.numbers two in
          let before = r.once n in omega arith;
      parts =
          let f : View H → ℕ = λ u. length u.numbers in
          let longer = total-snoc f (set s.views id left) right in
          let changed = total-set f s.views id v left at in
          let cut = length-cut v.numbers two in
          let before = r.parts in omega arith;
    }
