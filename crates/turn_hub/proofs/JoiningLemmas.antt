-- Joining two seats keeps the rule: one has the numbers of both and knows what both knew, and the other is spent.
use Rattle.std.proofs.Common.{◌≡◌, ◌≢◌, ◌⊎◌, ℕ, ◌<◌, List, [], ◌∷◌, ◌++◌, length, set, refl, sym, ◌∙◌, subst, ⊎_elim, inl, inr, arith, Option, None, Some}
use mathlib.Core.Option.{some}
use lib.ListN.{get_elem?}
use Rattle.atomic_table.specs.Table.{Joins}
use Rattle.atomic_table.proofs.Lists.{at_set, set_else}
use Rattle.asp_model.specs.History.{HistoryShape, BeginsWith}
use Rattle.turn_hub.specs.declared.view.View.{View}
use Rattle.turn_hub.specs.Numbers.{times}
use Rattle.turn_hub.specs.Sharing.{NothingOut, HasOut, Tells, Covers, IsAway, IsShared, joined_view, spent_view}
use Rattle.turn_hub.proofs.NumberLemmas.{times-append, length_both}
use Rattle.turn_hub.proofs.TotalLemmas.{total-set}
use Rattle.turn_hub.proofs.ViewLemmas.{Shelf, not_owner, place_kept}

module _ {H : Type 0} (history : H → HistoryShape) (out : H → ℕ → Option (ℕ × ℕ × ℕ)) where
  tells_append : (h : H) (fs gs : List HistoryShape) → Tells history out h fs → Tells history out h gs → Tells history out h (fs ++ gs)
  tells_append h [] gs x y = y
  tells_append h (f ∷ fs) gs x y = (x.0, tells_append h fs gs x.1 y)

  -- what a view was told before and when it took in another
  pub tells_split : (h : H) (fs : List HistoryShape) (g : HistoryShape) (gs : List HistoryShape) → Tells history out h (fs ++ g ∷ gs) → Tells history out h fs × BeginsWith (history h) g
  tells_split h [] g gs x = (tt, x.0)
  tells_split h (f ∷ fs) g gs x = let below = tells_split h fs g gs x.1 in ((x.0, below.0), below.1)

  nothing_append : (h : H) (ms ns : List ℕ) → NothingOut history out h ms → NothingOut history out h ns → NothingOut history out h (ms ++ ns)
  nothing_append h [] ns x y = y
  nothing_append h (m ∷ ms) ns x y = (x.0, nothing_append h ms ns x.1 y)

  -- one that has nothing out, has nothing out under any of its numbers
  pub nothing_of : (h : H) (ns : List ℕ) (o : Option (ℕ × ℕ × ℕ)) → o ≡ None → HasOut history out h ns o → NothingOut history out h ns
  nothing_of h [] o is x = tt
  nothing_of h (n ∷ ns) o is x = (x.0 ∙ is, x.1)

  has_out_append : (h : H) (ms ns : List ℕ) (o : Option (ℕ × ℕ × ℕ)) → 0 < length ms → HasOut history out h ms o → NothingOut history out h ns → HasOut history out h (ms ++ ns) o
  has_out_append h [] ns o some_number x y = absurd (omega arith)
  has_out_append h (m ∷ ms) ns o some_number x y = (x.0, nothing_append h ms ns x.1 y)

-- each view is the one that is spent, or the one that has both, or stood there before
after_join : {H : Type 0} (s : Shelf H) (id other : ℕ) (both : View H) (P : ℕ → View H → Type 0) → P other spent_view → P id both → ((j : ℕ) (u : View H) → get_elem? s.views j ≡ some u → P j u)
    → (j : ℕ) (u : View H) → get_elem? (set (set s.views id both) other spent_view) j ≡ some u → P j u
after_join {H = H} s id other both P at_spent at_both before j u found = ⊎_elim
    (λ (t : (j ≡ other) × (spent_view ≡ u)). subst (λ i. P i u) (sym t.0) (subst (P other) t.1 at_spent))
    (λ (t : (j ≢ other) × (get_elem? (set s.views id both) j ≡ some u)). ⊎_elim
    (λ (q : (j ≡ id) × (both ≡ u)). subst (λ i. P i u) (sym q.0) (subst (P id) q.1 at_both))
    (λ (q : (j ≢ id) × (get_elem? s.views j ≡ some u)). before j u q.1)
    (at_set s.views id j both u t.1))
    (at_set (set s.views id both) other j spent_view u found)

pub joins : {H : Type 0} (history : H → HistoryShape) (out : H → ℕ → Option (ℕ × ℕ × ℕ)) (keeps : H → H → Type 0) (first : H) (seats id : ℕ) (v : View H) (other : ℕ) (w : View H) → v.taken ≡ None → w.taken ≡ None → w.out ≡ None
    → 0 < length v.numbers → 0 < length w.numbers → Joins (IsShared history out keeps first seats) id v other w (joined_view v w) spent_view
joins {H = H} history out keeps first seats id v other w v_idle w_idle w_in v_live w_live s r at ne at_other =
    let both = joined_view v w in
    let one : List (View H) = set s.views id both in
    let views : List (View H) = set one other spent_view in
    let h = r.value in
    let w_before : get_elem? s.views other ≡ some w = sym (set_else s.views id other both ne) ∙ at_other in
    let v_covers = r.covers id v at v_live in
    let w_covers = r.covers other w w_before w_live in
    let both_covers : Covers history out h both = record {
      later = v_covers.later;
      told = tells_append history out h v.told (w.seen ∷ w.told) v_covers.told (w_covers.later, w_covers.told);
      has_out = has_out_append history out h v.numbers w.numbers v.out v_live v_covers.has_out (nothing_of history out h w.numbers w.out w_in w_covers.has_out);
    } in
    let still = after_join s id other both (λ j u. (u.taken ≡ None) ⊎ (get_elem? s.views j ≡ some u)) (inl refl) (inl v_idle) (λ j u found. inr found) in
    let there : (away : IsAway history out h s) → get_elem? views away.owner ≡ some away.view = λ away.
    set_else one other away.owner spent_view (not_owner history out s h away other w w_idle w_before) ∙ (set_else s.views id away.owner both (not_owner history out s h away id v v_idle at) ∙ away.there) in record {
      value = h;
      place = place_kept history out s h views still there r.place;
      kept = r.kept;
      opened = after_join s id other both (λ j u. 0 < length u.numbers → u.opened ≡ Some first) (λ live. absurd (omega arith)) (λ live. r.opened id v at v_live) r.opened;
      covers = after_join s id other both (λ j u. 0 < length u.numbers → Covers history out h u) (λ live. absurd (omega arith)) (λ live. both_covers) r.covers;
      once = λ n.
          let f : View H → ℕ = λ u. times n u.numbers in
          let spent = total-set f one other w spent_view at_other in
          let grown = total-set f s.views id v both at in
          let numbers = times-append n v.numbers w.numbers in
          let before = r.once n in omega arith;
      parts =
          let f : View H → ℕ = λ u. length u.numbers in
          let spent = total-set f one other w spent_view at_other in
          let grown = total-set f s.views id v both at in
          let numbers = length_both v.numbers w.numbers in
          let before = r.parts in omega arith;
    }
