-- The rule when a hub is made, and what it says when one seat has every part.
use Rattle.std.proofs.Common.{◌≡◌, ℕ, zero, suc, ◌+◌, ◌-◌, ◌<◌, ◌≤◌, List, [], ◌∷◌, length, sym, refl, ap, ◌∙◌, subst, ⊎_elim, inl, arith, Option, Some, None}
use mathlib.Core.Option.{some, some-injective, some-ne-none}
use mathlib.Core.Logic.{dite}
use native.Mathlib.Decide.{ℕ_discrete}
use lib.ListN.{get_elem?}
use Rattle.atomic_table.specs.Table.{opening, Final, Seen}
use Rattle.asp_model.specs.History.{HistoryShape}
use Rattle.asp_model.proofs.HistoryLemmas.{begins_with_itself}
use Rattle.turn_hub.specs.declared.view.View.{View}
use Rattle.turn_hub.specs.declared.view.Opening.{Opening}
use Rattle.turn_hub.specs.Numbers.{times, once_below, behind}
use Rattle.turn_hub.specs.Seats.{AllIn, Knows}
use Rattle.turn_hub.specs.Sharing.{NothingOut, Covers, IsHome, IsAway, IsShared, first_view}
use Rattle.turn_hub.proofs.NumberLemmas.{times_else, times_empty, length-behind, behind_once, once_there}
use Rattle.turn_hub.proofs.TotalLemmas.{total_two, total_alone}
use Rattle.turn_hub.proofs.ViewLemmas.{Homes, not_owner}
use Rattle.turn_hub.proofs.JoiningLemmas.{nothing_of}

module _ {H : Type 0} (history : H → HistoryShape) (out : H → ℕ → Option (ℕ × ℕ × ℕ)) (keeps : H → H → Type 0) (seats : ℕ) where
  only_view : (v : View H) (j : ℕ) (u : View H) → get_elem? (v ∷ []) j ≡ some u → v ≡ u
  only_view v zero u found = some-injective v u found
  only_view v (suc j) u found = absurd (some-ne-none u (sym found))

  all_in_behind : (h : H) → AllIn out h seats → (k : ℕ) → suc k ≤ seats → NothingOut history out h (behind 0 k)
  all_in_behind h empty zero low = tt
  all_in_behind h empty (suc k) low = (empty (0 + suc k) (omega arith), all_in_behind h empty k (omega arith))

  -- the table at the start
  pub opens : (key : Opening H) → key.seats ≡ seats → 0 < seats → AllIn out key.first.value seats → keeps key.first.value key.first.value → IsShared history out keeps key.first.value seats (opening (0 ∷ []) (Some key.first.value ∷ []) (first_view history out key))
  opens key is some_seat empty kept =
      let v = first_view history out key in
      let h = key.first.value in
      let cover : Covers history out h v = record { later = begins_with_itself (history h); told = tt; has_out = (empty 0 some_seat, all_in_behind h empty (key.seats - 1) (omega arith)) } in record {
        value = h;
        place = inl (record { word = refl; slot = refl; idle = λ j u found. sym (ap (λ (x : View H). x.taken) (only_view v j u found)) });
        kept = kept;
        opened = λ j u found live. sym (ap (λ (x : View H). x.opened) (only_view v j u found));
        covers = λ j u found live. subst (Covers history out h) (only_view v j u found) cover;
        once = λ n. let all = behind_once (key.seats - 1) n in let same : suc (key.seats - 1) ≡ seats = omega arith in omega (arith, ap (λ k. once_below k n) same);
        parts = let all = length-behind 0 (key.seats - 1) in omega arith;
      }

  nothing_at : (h : H) (ns : List ℕ) (n : ℕ) → NothingOut history out h ns → 1 ≤ times n ns → out h n ≡ None
  nothing_at h [] n x there = absurd (omega arith)
  nothing_at h (m ∷ ns) n x there = dite (ℕ_discrete n m) (λ same. ap (out h) same ∙ x.0) (λ ne. let else = times_else n m ns ne in nothing_at h ns n x.1 (omega arith))

  -- where one seat has every part and not the turn, the value is at home, it begins with all that the seat and those that it took in have seen, and nobody has anything out
  pub closes : (first : H) (xs : List (Option H)) (ws : List ℕ) (id : ℕ) (v : View H) → v.taken ≡ None → v.out ≡ None → length v.numbers ≡ seats → 0 < seats → Final (Seen (IsShared history out keeps first seats) id v) ws xs
      → (h : H) × (get_elem? xs 0 ≡ some (Some h)) × Knows history out h v × AllIn out h seats × keeps first h
  closes first xs ws id v idle in_ all some_seat final =
      let s = final.0 in
      let r = final.1.0 in
      let at = final.1.1 in
      let h = r.value in
      let cover = r.covers id v at (omega arith) in
      let parts = r.parts in
      let home : IsHome history out h s = ⊎_elim (λ (here : IsHome history out h s). here)
      (λ (away : IsAway history out h s).
      let both = total_two (λ (u : View H). length u.numbers) s.views id away.owner v away.view (λ same. not_owner history out s h away id v idle at (sym same)) at away.there in
      let live = away.live in absurd (omega arith))
      r.place in (
        h,
        final.4 0 (Some h) (ap (λ (hs : Homes H). get_elem? hs 0) home.slot),
        (cover.later, cover.told),
        (λ n low. nothing_at h v.numbers n (nothing_of history out h v.numbers v.out in_ cover.has_out)
            (let alone = total_alone (λ (u : View H). length u.numbers) (λ (u : View H). times n u.numbers) (λ u. times_empty n u.numbers) s.views id v at (omega arith) in
            let once = r.once n in
            let there = once_there seats n low in omega arith)),
        r.kept,
      )
