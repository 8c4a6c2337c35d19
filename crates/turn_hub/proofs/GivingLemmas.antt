-- Giving the value back keeps the rule: what the views of the others say is true of the value that comes home.
use Rattle.std.proofs.Common.{◌≡◌, ◌≢◌, ℕ, ◌<◌, ◌≤◌, List, [], ◌∷◌, length, set, slice_index, sym, refl, ap, ◌∙◌, subst, ⊎_elim, inl, arith, Option, Some, None}
use mathlib.Core.Option.{none, some, some-injective}
use mathlib.Core.Logic.{dite}
use native.Mathlib.Decide.{ℕ_discrete}
use lib.ListN.{get_elem?}
use Rattle.std.proofs.lemmas.Option.{same_Some, none-some}
use Rattle.std.specs.Prelude.{MatchOption}
use Rattle.atomic_table.specs.Table.{Me, Step, step, Act, gives, Valid, stepped, carried_after, Allows}
use Rattle.atomic_table.proofs.Lists.{at_set}
use Rattle.asp_model.specs.History.{HistoryShape, BeginsWith}
use Rattle.asp_model.proofs.HistoryLemmas.{begins_with_itself, begins_with_earlier}
use Rattle.turn_hub.specs.declared.view.View.{View}
use Rattle.turn_hub.specs.Numbers.{times, own}
use Rattle.turn_hub.specs.Seats.{GoesOn, Releases}
use Rattle.turn_hub.specs.Sharing.{NothingOut, HasOut, Tells, Covers, IsHome, IsAway, IsKept, IsShared, settled, released}
use Rattle.turn_hub.proofs.NumberLemmas.{times_here, times_none, own_there, once_at_most}
use Rattle.turn_hub.proofs.TotalLemmas.{total_at, total_two}
use Rattle.turn_hub.proofs.ViewLemmas.{Shelf, Homes, shelf, view_set}

module _ {H : Type 0} (history : H → HistoryShape) (out : H → ℕ → Option (ℕ × ℕ × ℕ)) where
  -- what the value says of numbers that the change does not concern
  module _ (h old : H) (k : ℕ) (same : (n : ℕ) → n ≢ k → out h n ≡ out old n) where
    nothing_kept : (ns : List ℕ) → times k ns ≡ 0 → NothingOut history out old ns → NothingOut history out h ns
    nothing_kept [] away x = tt
    nothing_kept (n ∷ ns) away x = (same n (times_none k n ns away) ∙ x.0, nothing_kept ns (omega arith) x.1)

    has_out_kept : (ns : List ℕ) (o : Option (ℕ × ℕ × ℕ)) → times k ns ≡ 0 → HasOut history out old ns o → HasOut history out h ns o
    has_out_kept [] o away x = tt
    has_out_kept (n ∷ ns) o away x = (same n (times_none k n ns away) ∙ x.0, nothing_kept ns (omega arith) x.1)

  -- of the numbers of the one that gives, its own has what the value says, and the others nothing
  has_out_settled : (h old : H) (ns : List ℕ) (o : Option (ℕ × ℕ × ℕ)) → ((n : ℕ) → n ≢ own ns → out h n ≡ out old n) → times (own ns) ns ≤ 1 → HasOut history out old ns o → HasOut history out h ns (out h (own ns))
  has_out_settled h old [] o same once x = tt
  has_out_settled h old (n ∷ ns) o same once x = let here = times_here n ns in (refl, nothing_kept h old n same ns (omega arith) x.1)

  tells_kept : (h old : H) (gs : List HistoryShape) → BeginsWith (history h) (history old) → Tells history out old gs → Tells history out h gs
  tells_kept h old [] later x = tt
  tells_kept h old (g ∷ gs) later x = (begins_with_earlier (history h) (history old) g later x.0, tells_kept h old gs later x.1)

  -- the turn is with the one that took the value
  owner_is : (s : Shelf H) (h : H) (away : IsAway history out h s) (id : ℕ) (v : View H) (old : H) → get_elem? s.views id ≡ some v → v.taken ≡ Some old → (id ≡ away.owner) × (h ≡ old)
  owner_is s h away id v old at took = dite (ℕ_discrete id away.owner)
      (λ is.
      let same : away.view ≡ v = some-injective away.view v (sym away.there ∙ (ap (get_elem? s.views) (sym is) ∙ at)) in
      (is, same_Some h old (sym away.took ∙ (ap (λ (u : View H). u.taken) same ∙ took))))
      (λ other. absurd (none-some old (sym (away.idle id v at other) ∙ took)))

  abbrev carried_value : List (ℕ × Option H) → Option H
  carried_value [] = None
  carried_value (x ∷ xs) = x.1

  module _ (keeps : H → H → Type 0) (first : H) (seats : ℕ) where
    abbrev Rule : Shelf H → Type 0
    Rule = IsShared history out keeps first seats

    once_most : (s : Shelf H) (r : Rule s) (id : ℕ) (v : View H) (n : ℕ) → get_elem? s.views id ≡ some v → times n v.numbers ≤ 1
    once_most s r id v n at =
        let here = total_at (λ (u : View H). times n u.numbers) s.views id v at in
        let all = r.once n in
        let most = once_at_most seats n in omega arith

    -- the own number of the one that gives stands in no other view
    not_there : (s : Shelf H) (r : Rule s) (id j : ℕ) (v u : View H) → 0 < length v.numbers → j ≢ id → get_elem? s.views id ≡ some v → get_elem? s.views j ≡ some u → times (own v.numbers) u.numbers ≡ 0
    not_there s r id j v u live other at found =
        let both = total_two (λ (x : View H). times (own v.numbers) x.numbers) s.views id j v u (λ same. other (sym same)) at found in
        let all = r.once (own v.numbers) in
        let most = once_at_most seats (own v.numbers) in
        let here = own_there v.numbers live in omega arith

    gives_away : (s : Shelf H) (r : Rule s) (id : ℕ) (v : View H) (h : H) (st : Step (Option H)) → (away : IsAway history out r.value s) → id ≡ away.owner → 0 < length v.numbers
        → BeginsWith (history h) (history r.value) → ((n : ℕ) → n ≢ own v.numbers → out h n ≡ out r.value n) → keeps first h → get_elem? s.views id ≡ some v
        → (w : View H) × (a : Act (Option H)) × Valid s.homes ((0, Some h) ∷ []) a × Rule (stepped s 0 0 id ((0, Some h) ∷ []) w a)
        × released history out st (v, (0, Some h) ∷ []) (slice_index s.words 0) (w, carried_after ((0, Some h) ∷ []) a)
    gives_away s r id v h st away mine live later same kept at =
        let w : View H = settled history out v h in
        let words : List ℕ = set s.words 0 0 in
        let homes : Homes H = set s.homes 0 (some (Some h)) in
        let cover = r.covers id v at live in
        let giver : Covers history out h w = record {
          later = begins_with_itself (history h);
          told = tells_kept h r.value v.told later cover.told;
          has_out = has_out_settled h r.value v.numbers v.out same (once_most s r id v (own v.numbers) at) cover.has_out;
        } in
        let home : IsHome history out h (shelf words homes (set s.views id w)) = record {
          word = ap (λ (ws : List ℕ). set ws 0 0) away.word;
          slot = ap (λ (hs : Homes H). set hs 0 (some (Some h))) away.slot;
          idle = λ j u found. ⊎_elim
              (λ (t : (j ≡ id) × (w ≡ u)). ap (λ (x : View H). x.taken) (sym t.1))
              (λ (t : (j ≢ id) × (get_elem? s.views j ≡ some u)). away.idle j u t.1 (λ is. t.0 (is ∙ sym mine)))
              (at_set s.views id j w u found);
        } in (
          w,
          gives,
          tt,
          view_set history out keeps first seats s r id v w words homes h at refl refl kept (inl home) giver (λ j u other found u_live.
              let before = r.covers j u found u_live in
              record {
                later = begins_with_earlier (history h) (history r.value) u.seen later before.later;
                told = tells_kept h r.value u.told later before.told;
                has_out = has_out_kept h r.value (own v.numbers) same u.numbers u.out (not_there s r id j v u live other at found) before.has_out;
              }),
          λ other is. ap (λ (x : H). (settled history out v x, let none_left : List (ℕ × Option H) = [] in none_left)) (same_Some h other (ap carried_value is)),
        )

    gives_back : (slots id : ℕ) (v : View H) (h old : H) (st : Step (Option H)) → v.taken ≡ Some old → 0 < length v.numbers → GoesOn history out (own v.numbers) old h → IsKept keeps v.opened h
        → Allows Rule slots id (v, (0, Some h) ∷ []) 0 (λ _. 0) (released history out st (v, (0, Some h) ∷ []))
    gives_back slots id v h old st took live goes kept s r len at fits = ⊎_elim
        (λ (home : IsHome history out r.value s). absurd (none-some old (sym (home.idle id v at) ∙ took)))
        (λ (away : IsAway history out r.value s).
        let owner = owner_is s r.value away id v old at took in
        let later : BeginsWith (history h) (history r.value) = subst (λ (x : H). BeginsWith (history h) (history x)) (sym owner.1) goes.0 in
        gives_away s r id v h st away owner.0 live later (λ n other. goes.1 n other ∙ ap (λ (x : H). out x n) (sym owner.1)) (subst (λ (o : Option H). IsKept keeps o h) (r.opened id v at live) kept) at)
        r.place

    pub gives_to : (slots id : ℕ) (me : Me (Option H) (View H)) (v : View H) (h : H) → me ≡ (v, (0, Some h) ∷ []) → 0 < length v.numbers → Releases history out v h → IsKept keeps v.opened h
        → Allows Rule slots id me 0 (λ _. 0) (released history out (step slots 0 0 0 none) me)
    gives_to slots id me v h is live releases kept =
        subst (λ (m : Me (Option H) (View H)). Allows Rule slots id m 0 (λ _. 0) (released history out (step slots 0 0 0 none) m)) (sym is) (go v.taken refl releases)
      where
        go : (o : Option H) → v.taken ≡ o → MatchOption o ⊥ (λ old. GoesOn history out (own v.numbers) old h)
            → Allows Rule slots id (v, (0, Some h) ∷ []) 0 (λ _. 0) (released history out (step slots 0 0 0 none) (v, (0, Some h) ∷ []))
        go None took goes = absurd goes
        go (Some old) took goes = gives_back slots id v h old (step slots 0 0 0 none) took live goes kept
