-- A try to get the turn keeps the rule: where the turn is free the seat gets it with the value, and else nothing changes.
use Rattle.std.proofs.Common.{◌≡◌, ℕ, ◌<◌, List, length, set, slice_index, sym, refl, ap, ◌∙◌, subst, ⊎_elim, inr, arith, Option, Some}
use mathlib.Core.Option.{none, some}
use lib.ListN.{get_elem?}
use Rattle.atomic_table.specs.Table.{Me, Step, step, Act, keeps, takes, Valid, stepped, carried_after, Allows}
use Rattle.atomic_table.proofs.Lists.{set_here, set_else, set_again}
use Rattle.asp_model.specs.History.{HistoryShape}
use Rattle.turn_hub.specs.declared.view.View.{View}
use Rattle.turn_hub.specs.Sharing.{Covers, IsHome, IsAway, IsKept, IsShared, tried}
use Rattle.turn_hub.proofs.ViewLemmas.{Shelf, Homes, shelf, is_there, view_set}

module _ {H : Type 0} (history : H → HistoryShape) (out : H → ℕ → Option (ℕ × ℕ × ℕ)) (like : H → H → Type 0) (first : H) (seats : ℕ) where
  abbrev Rule : Shelf H → Type 0
  Rule = IsShared history out like first seats

  -- a step that makes f n of the word n has a view and an act that keep the rule and meet `tried`
  abbrev TriesAt : Shelf H → ℕ → Me (Option H) (View H) → (ℕ → ℕ) → Step (Option H) → Type 0
  TriesAt s id me f st =
      let n = slice_index s.words 0 in
      (w : View H) × (a : Act (Option H)) × Valid s.homes me.1 a × Rule (stepped s 0 (f n) id me.1 w a) × tried history out like st me n (w, carried_after me.1 a)

  tries_home : (s : Shelf H) (r : Rule s) (id : ℕ) (me : Me (Option H) (View H)) (f : ℕ → ℕ) (st : Step (Option H)) → IsHome history out r.value s → 0 < length me.0.numbers
      → ((n : ℕ) → 0 < f n) → get_elem? s.views id ≡ some me.0 → TriesAt s id me f st
  tries_home s r id me f st home live pos at =
      let w : View H = record me.0 { taken = Some r.value } in
      let words : List ℕ = set s.words 0 (f (slice_index s.words 0)) in
      let views : List (View H) = set s.views id w in
      let cover = r.covers id me.0 at live in
      let mine : Covers history out r.value w = record { later = cover.later; told = cover.told; has_out = cover.has_out } in
      let away : IsAway history out r.value (shelf words (set s.homes 0 none) views) = record {
        mark = f 0;
        marked = pos 0;
        word = ap (λ (ws : List ℕ). set ws 0 (f (slice_index ws 0))) home.word;
        slot = ap (λ (hs : Homes H). set hs 0 none) home.slot;
        owner = id;
        view = w;
        there = set_here s.views id w (is_there s.views id me.0 at);
        live = live;
        took = refl;
        idle = λ j u found other. home.idle j u (sym (set_else s.views id j w other) ∙ found);
      } in (
        w,
        takes 0 (Some r.value),
        ap (λ (hs : Homes H). get_elem? hs 0) home.slot,
        view_set history out like first seats s r id me.0 w words (set s.homes 0 none) r.value at refl refl r.kept (inr away) mine (λ j u other found. r.covers j u found),
        ((λ free. (r.value, refl, cover, subst (λ (o : Option H). IsKept like o r.value) (sym (r.opened id me.0 at live)) r.kept)), λ taken. absurd (taken (ap (λ (ws : List ℕ). slice_index ws 0) home.word))),
      )

  tries_away : (s : Shelf H) (r : Rule s) (id : ℕ) (me : Me (Option H) (View H)) (f : ℕ → ℕ) (st : Step (Option H)) → IsAway history out r.value s
      → ((n : ℕ) → 0 < f n) → get_elem? s.views id ≡ some me.0 → TriesAt s id me f st
  tries_away s r id me f st away pos at =
      let words : List ℕ = set s.words 0 (f (slice_index s.words 0)) in
      let found : slice_index s.words 0 ≡ away.mark = ap (λ (ws : List ℕ). slice_index ws 0) away.word in
      let still : IsAway history out r.value (shelf words s.homes s.views) = record {
        mark = f away.mark;
        marked = pos away.mark;
        word = ap (λ (ws : List ℕ). set ws 0 (f (slice_index ws 0))) away.word;
        slot = away.slot;
        owner = away.owner;
        view = away.view;
        there = away.there;
        live = away.live;
        took = away.took;
        idle = away.idle;
      } in
      let same : Rule (shelf words s.homes s.views) = record { value = r.value; place = inr still; kept = r.kept; covers = r.covers; opened = r.opened; once = r.once; parts = r.parts } in (
        me.0,
        keeps,
        tt,
        subst (λ (us : List (View H)). Rule (shelf words s.homes us)) (sym (set_again s.views id me.0 at)) same,
        ((λ free. let marked = away.marked in absurd (omega arith)), λ taken. refl),
      )

  pub tries : (slots id : ℕ) (me : Me (Option H) (View H)) (f : ℕ → ℕ) → 0 < length me.0.numbers → ((n : ℕ) → 0 < f n) → Allows Rule slots id me 0 f (tried history out like (step slots 0 0 0 none) me)
  tries slots id me f live pos s r len at fits = ⊎_elim
      (λ home. tries_home s r id me f (step slots 0 0 0 none) home live pos at)
      (λ away. tries_away s r id me f (step slots 0 0 0 none) away pos at)
      r.place
