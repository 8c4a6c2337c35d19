-- Entries up to an index.
use Rattle.std.specs.Prelude.{◌≡◌, ℕ, zero, suc, ◌+◌, ◌<◌, ◌≤◌, Bool, true, false, cond, List, [], ◌∷◌, ◌++◌, Some, length, slice_get, take}
use Rattle.std.specs.List.{filter}
use Rattle.std.proofs.Common.{refl, sym, ap, subst, ◌∙◌, arith, ⊎_elim, ◌⊎◌}
use Rattle.std.proofs.lemmas.List.{length-append, length-take}
use Rattle.std.proofs.lemmas.List.Elements.{filter-append}
use Rattle.law_chases.proofs.FutureLemmas.{no_some, some_is}
use Rattle.asp_model.specs.Names.{Name, same_name}
use Rattle.asp_model.specs.Step.{ListsShape}
use Rattle.explain.specs.declared.differences.places.Places.{Places}
use Rattle.explain.specs.Orders.{EntryShape, place_after}
use Rattle.explain.specs.Differences.{AgreeBefore, differs_at}
use Rattle.explain.specs.OrderKept.{count_at}

take_at : {X : Type 0} (xs : List X) (k : ℕ) (x : X) → slice_get xs k ≡ Some x → take (suc k) xs ≡ take k xs ++ x ∷ []
take_at [] k x e = no_some e
take_at (y ∷ xs) zero x e = ap (λ z. z ∷ []) (some_is e)
take_at (y ∷ xs) (suc k) x e = ap (λ z. y ∷ z) (take_at xs k x e)

plus_one : (i : ℕ) → suc i ≡ i + 1
plus_one i = omega arith

-- how many there are with one entry more
place_more : (es : List EntryShape) (e : EntryShape) (n : Name) → place_after (es ++ e ∷ []) n ≡ cond (same_name e.to n) (place_after es n + 1) (place_after es n)
place_more es e n =
    ap length (filter-append (λ x. same_name x.to n) es (e ∷ []))
    ∙ length-append (filter (λ x. same_name x.to n) es) (filter (λ x. same_name x.to n) (e ∷ []))
    ∙ by (same_name e.to n)
  where
    by : (b : Bool) → place_after es n + length {A = EntryShape} (cond b (e ∷ []) []) ≡ cond b (place_after es n + 1) (place_after es n)
    by true = refl
    by false = omega arith

-- the numbers that are kept are those of the entries before an index
abbrev pub AreMet : Places → List EntryShape → ℕ → Type 0
AreMet p es i = (n : Name) → count_at p n ≡ place_after (take i es) n

pub met_more : (old new : Places) (es : List EntryShape) (i : ℕ) (e : EntryShape) → slice_get es i ≡ Some e → AreMet old es i
    → ((n : Name) → count_at new n ≡ cond (same_name e.to n) (count_at old n + 1) (count_at old n)) → AreMet new es (i + 1)
met_more old new es i e at met more = subst (AreMet new es) (plus_one i) (λ n.
    more n ∙ ap (λ k. cond (same_name e.to n) (k + 1) k) (met n) ∙ sym (place_more (take i es) e n) ∙ ap (λ l. place_after l n) (sym (take_at es i e at)))

filter_short : {X : Type 0} (p : X → Bool) (xs : List X) → length (filter p xs) ≤ length xs
filter_short p [] = omega arith
filter_short {X} p (x ∷ xs) = by (p x) (filter_short p xs)
  where
    by : (b : Bool) → length (filter p xs) ≤ length xs → length {A = X} (cond b (x ∷ filter p xs) (filter p xs)) ≤ suc (length xs)
    by true h = omega (arith, h)
    by false h = omega (arith, h)

pub met_few : (p : Places) (es : List EntryShape) (i : ℕ) → AreMet p es i → i < length es → (n : Name) → count_at p n ≤ i
met_few p es i met below n =
    let short = filter_short (λ e. same_name e.to n) (take i es) in
    let size = length-take i es in
    let is = met n in
    omega (arith, short, size, is, below)

-- one more agrees
pub agree_more : (others : ListsShape) (es : List EntryShape) (i : ℕ) (e : EntryShape) → AgreeBefore others es i → slice_get es i ≡ Some e → differs_at others es i e ≡ false → AgreeBefore others es (i + 1)
agree_more others es i e before at same = subst (AgreeBefore others es) (plus_one i) (λ j x lt there. ⊎_elim
    (λ less. before j x less there)
    (λ is. subst (λ k. slice_get es k ≡ Some x → differs_at others es k x ≡ false) (sym is)
    (λ t. subst (λ y. differs_at others es i y ≡ false) (some_is (sym at ∙ t)) same) there)
    (by_case j i lt))
  where
    by_case : (j i : ℕ) → j < suc i → (j < i) ⊎ (j ≡ i)
    by_case j i lt = search (arith, lt)

-- what is there stands before the end
pub some_below : {X : Type 0} (xs : List X) (j : ℕ) (x : X) → slice_get xs j ≡ Some x → j < length xs
some_below [] j x e = no_some e
some_below (y ∷ xs) zero x e = omega arith
some_below (y ∷ xs) (suc j) x e = let h = some_below xs j x e in omega (arith, h)
