-- What every step rests on: a list has an element where it gives one, and the rule where one view changes.
use Rattle.std.proofs.Common.{◌≡◌, ◌≢◌, ◌⊎◌, ℕ, zero, suc, ◌<◌, List, [], ◌∷◌, length, set, sym, ap, ◌∙◌, subst, ⊎_elim, inl, inr, arith, Option, None}
use mathlib.Core.Option as maybe
use mathlib.Core.Option.{some, some-injective, some-ne-none}
use lib.ListN.{get_elem?}
use Rattle.std.proofs.lemmas.Option.{none-some}
use Rattle.atomic_table.specs.Table.{State}
use Rattle.atomic_table.proofs.Lists.{at_set}
use Rattle.asp_model.specs.History.{HistoryShape}
use Rattle.turn_hub.specs.declared.view.View.{View}
use Rattle.turn_hub.specs.Numbers.{times}
use Rattle.turn_hub.specs.Sharing.{Covers, IsHome, IsAway, IsShared}
use Rattle.turn_hub.proofs.TotalLemmas.{total-set}

-- a list has an element where it gives one
pub is_there : {A : Type 0} (xs : List A) (i : ℕ) (a : A) → get_elem? xs i ≡ some a → i < length xs
is_there [] i a at = absurd (some-ne-none a (sym at))
is_there (x ∷ xs) zero a at = omega arith
is_there (x ∷ xs) (suc i) a at = let below = is_there xs i a at in omega arith

-- the state of a hub's table
abbrev pub Shelf : Type 0 → Type 0
Shelf H = State (Option H) (View H)

-- what is at home in its slots
abbrev pub Homes : Type 0 → Type 0
Homes H = List (maybe.Option (Option H))

abbrev pub shelf : {H : Type 0} → List ℕ → Homes H → List (View H) → Shelf H
shelf words homes views = record { words = words; homes = homes; views = views }

module _ {H : Type 0} (history : H → HistoryShape) (out : H → ℕ → Option (ℕ × ℕ × ℕ)) where
  -- the owner of the turn is none of the seats that do not have it
  pub not_owner : (s : Shelf H) (h : H) (away : IsAway history out h s) (id : ℕ) (v : View H) → v.taken ≡ None → get_elem? s.views id ≡ some v → away.owner ≢ id
  not_owner s h away id v idle at same =
      let view : v ≡ away.view = some-injective v away.view (sym at ∙ (ap (get_elem? s.views) (sym same) ∙ away.there)) in
      none-some h (sym idle ∙ (ap (λ (x : View H). x.taken) view ∙ away.took))

  -- where the value is, when only views change that do not have the turn
  pub place_kept : (s : Shelf H) (h : H) (views : List (View H)) → ((j : ℕ) (u : View H) → get_elem? views j ≡ some u → (u.taken ≡ None) ⊎ (get_elem? s.views j ≡ some u))
      → ((away : IsAway history out h s) → get_elem? views away.owner ≡ some away.view) → IsHome history out h s ⊎ IsAway history out h s
      → IsHome history out h (shelf s.words s.homes views) ⊎ IsAway history out h (shelf s.words s.homes views)
  place_kept s h views still there place = ⊎_elim
      (λ (home : IsHome history out h s). inl (record { word = home.word; slot = home.slot; idle = λ j u found. ⊎_elim (λ none. none) (home.idle j u) (still j u found) }))
      (λ (away : IsAway history out h s). inr (record {
        mark = away.mark;
        marked = away.marked;
        word = away.word;
        slot = away.slot;
        owner = away.owner;
        view = away.view;
        there = there away;
        live = away.live;
        took = away.took;
        idle = λ j u found other. ⊎_elim (λ none. none) (λ before. away.idle j u before other) (still j u found);
      }))
      place

  module _ (keeps : H → H → Type 0) (first : H) (seats : ℕ) where
    -- the rule where one view changes and keeps its numbers
    pub view_set : (s : Shelf H) (r : IsShared history out keeps first seats s) (id : ℕ) (v w : View H) (words : List ℕ) (homes : Homes H) (h : H) → get_elem? s.views id ≡ some v → w.numbers ≡ v.numbers → w.opened ≡ v.opened → keeps first h
        → IsHome history out h (shelf words homes (set s.views id w)) ⊎ IsAway history out h (shelf words homes (set s.views id w))
        → Covers history out h w → ((j : ℕ) (u : View H) → j ≢ id → get_elem? s.views j ≡ some u → 0 < length u.numbers → Covers history out h u)
        → IsShared history out keeps first seats (shelf words homes (set s.views id w))
    view_set s r id v w words homes h at same source kept place mine others = record {
      value = h;
      place = place;
      kept = kept;
      opened = λ j u found live. ⊎_elim
          (λ (t : (j ≡ id) × (w ≡ u)). ap (λ (x : View H). x.opened) (sym t.1) ∙ (source ∙ r.opened id v at (subst (λ (ns : List ℕ). 0 < length ns) same (subst (λ (x : View H). 0 < length x.numbers) (sym t.1) live))))
          (λ (t : (j ≢ id) × (get_elem? s.views j ≡ some u)). r.opened j u t.1 live)
          (at_set s.views id j w u found);
      covers = λ j u found live. ⊎_elim
          (λ (t : (j ≡ id) × (w ≡ u)). subst (Covers history out h) t.1 mine)
          (λ (t : (j ≢ id) × (get_elem? s.views j ≡ some u)). others j u t.0 t.1 live)
          (at_set s.views id j w u found);
      once = λ n.
          let all = total-set (λ (u : View H). times n u.numbers) s.views id v w at in
          let kept : times n w.numbers ≡ times n v.numbers = ap (times n) same in
          let before = r.once n in omega arith;
      parts =
          let all = total-set (λ (u : View H). length u.numbers) s.views id v w at in
          let kept : length w.numbers ≡ length v.numbers = ap length same in
          let before = r.parts in omega arith;
    }
