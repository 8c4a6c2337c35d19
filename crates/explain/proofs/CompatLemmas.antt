-- Where no entry differs, the logs are compatible.
use Rattle.std.specs.Prelude.{◌≡◌, ℕ, zero, suc, ◌&&◌, ◌||◌, Bool, true, false, cond, not, List, [], ◌∷◌, Some, length, map, slice_get, take}
use Rattle.std.specs.List.{filter, starts_with}
use Rattle.std.proofs.Common.{refl, sym, ap, subst, ◌∙◌}
use Rattle.asp_model.specs.Names.{Name, same_name}
use Rattle.asp_model.specs.Configuration.{ReceptionShape}
use Rattle.asp_model.specs.Step.{reception_at, same_reception}
use Rattle.asp_model.specs.Replay.{log_in}
use Rattle.law_chases.proofs.FutureLemmas.{no_some, some_is}
use Rattle.law_steps.proofs.NameLemmas.{names_tied, reception_itself, receptions_tied}
use Rattle.explain.specs.Orders.{EntryShape, entries_of, place_after}
use Rattle.explain.specs.Differences.{AgreeingAreCompatible, differs_at, is_other}

abbrev Log : Type 0
Log = List ReceptionShape

same_both : (x y : ReceptionShape) → same_reception x y ≡ true → same_reception y x ≡ true
same_both x y e = subst (λ z. same_reception z x ≡ true) (receptions_tied x y e) (reception_itself x)

-- two logs have no place at which both have an entry, and not the same
abbrev AgreeAt : Log → Log → Type 0
AgreeAt xs ys = (k : ℕ) (x y : ReceptionShape) → reception_at xs k ≡ Some x → reception_at ys k ≡ Some y → same_reception x y ≡ true

both_and : (a b c d : Bool) → a ≡ true → b ≡ true → (c || d) ≡ true → ((a && c) || (b && d)) ≡ true
both_and true true c d p q h = h
both_and true false c d p q h = absurd cc
both_and false b c d p q h = absurd cc

agree_fit : (xs ys : Log) → AgreeAt xs ys → (starts_with same_reception xs ys || starts_with same_reception ys xs) ≡ true
agree_fit [] [] h = refl
agree_fit [] (y ∷ ys) h = refl
agree_fit (x ∷ xs) [] h = refl
agree_fit (x ∷ xs) (y ∷ ys) h =
    let same = h zero x y refl refl in
    both_and (same_reception y x) (same_reception x y) (starts_with same_reception xs ys) (starts_with same_reception ys xs) (same_both x y same) same (agree_fit xs ys (λ k. h (suc k)))

-- where the entry at a place of a log stands in the order
record StandsAt (n : Name) (es : List EntryShape) (k : ℕ) (x : ReceptionShape) : Type 0 where
  index : ℕ
  entry : EntryShape
  there : slice_get es index ≡ Some entry
  of : same_name entry.to n ≡ true
  noted : entry.noted ≡ x
  place : place_after (take index es) n ≡ k

module _ (n : Name) (e : EntryShape) (es : List EntryShape) (x : ReceptionShape) where
  counted : (b : Bool) → same_name e.to n ≡ b → (j : ℕ) → place_after (e ∷ take j es) n ≡ cond b (suc (place_after (take j es) n)) (place_after (take j es) n)
  counted true is j = ap (λ b. length {A = EntryShape} (cond b (e ∷ filter (λ z. same_name z.to n) (take j es)) (filter (λ z. same_name z.to n) (take j es)))) is
  counted false is j = ap (λ b. length {A = EntryShape} (cond b (e ∷ filter (λ z. same_name z.to n) (take j es)) (filter (λ z. same_name z.to n) (take j es)))) is

  listed : (b : Bool) → same_name e.to n ≡ b → entries_of n (e ∷ es) ≡ cond b (e.noted ∷ entries_of n es) (entries_of n es)
  listed true is = ap (λ b. map {A = EntryShape} (λ z. z.noted) (cond b (e ∷ filter (λ z. same_name z.to n) es) (filter (λ z. same_name z.to n) es))) is
  listed false is = ap (λ b. map {A = EntryShape} (λ z. z.noted) (cond b (e ∷ filter (λ z. same_name z.to n) es) (filter (λ z. same_name z.to n) es))) is

  here : same_name e.to n ≡ true → reception_at (e.noted ∷ entries_of n es) zero ≡ Some x → StandsAt n (e ∷ es) zero x
  here is at = record { index = zero; entry = e; there = refl; of = is; noted = some_is at; place = refl }

  behind_own : (k : ℕ) → same_name e.to n ≡ true → StandsAt n es k x → StandsAt n (e ∷ es) (suc k) x
  behind_own k is s = record { index = suc s.index; entry = s.entry; there = s.there; of = s.of; noted = s.noted; place = counted true is s.index ∙ ap suc s.place }

  behind_other : (k : ℕ) → same_name e.to n ≡ false → StandsAt n es k x → StandsAt n (e ∷ es) k x
  behind_other k is s = record { index = suc s.index; entry = s.entry; there = s.there; of = s.of; noted = s.noted; place = counted false is s.index ∙ s.place }

  at_first : (b : Bool) → same_name e.to n ≡ b → (k : ℕ) → ((j : ℕ) → reception_at (entries_of n es) j ≡ Some x → StandsAt n es j x) → reception_at (cond b (e.noted ∷ entries_of n es) (entries_of n es)) k ≡ Some x → StandsAt n (e ∷ es) k x
  at_first true is zero later at = here is at
  at_first true is (suc k) later at = behind_own k is (later k at)
  at_first false is k later at = behind_other k is (later k at)

stands_at : (n : Name) (es : List EntryShape) (x : ReceptionShape) (k : ℕ) → reception_at (entries_of n es) k ≡ Some x → StandsAt n es k x
stands_at n [] x k at = no_some at
stands_at n (e ∷ es) x k at = at_first n e es x (same_name e.to n) refl k (stands_at n es x) (ap (λ l. reception_at l k) (sym (listed n e es x (same_name e.to n) refl)) ∙ at)

not_other : (x y : ReceptionShape) → is_other x (Some y) ≡ false → same_reception x y ≡ true
not_other x y h = by (same_reception x y) h
  where
    by : (b : Bool) → not b ≡ false → b ≡ true
    by true h = refl
    by false h = sym h

pub agreeing_are_compatible : AgreeingAreCompatible
agreeing_are_compatible es lists others logs agree n =
    subst (λ l. (starts_with same_reception l (log_in others n) || starts_with same_reception (log_in others n) l) ≡ true) (logs n)
    (agree_fit (entries_of n es) (log_in others n) (λ k x y mine other.
    let s = stands_at n es x k mine in
    let to = names_tied s.entry.to n s.of in
    let at : differs_at others es s.index s.entry ≡ is_other x (Some y) =
    ap (λ m. is_other s.entry.noted (reception_at (log_in others m) (place_after (take s.index es) m))) to
    ∙ (λ i. is_other (s.noted i) (reception_at (log_in others n) (s.place i)))
    ∙ ap (is_other x) other in
    not_other x y (sym at ∙ agree s.index s.entry s.there)))
