-- Names and their slots.
use Rattle.std.proofs.Common.{◌≡◌, ℕ, suc, ◌+◌, ◌<◌, ◌||◌, Bool, true, false, T, List, [], ◌∷◌, ◌++◌, Option, Some, None, length, refl, sym, ap, subst, ◌∙◌, arith, ⊎_elim}
use Rattle.std.specs.Option.{option_map}
use Rattle.asp_model.specs.Names.{Text, same_text}
use Rattle.asp_model.specs.Term.{Environment, has_text, location_of}
use Rattle.code_table.specs.Classes.{number_of}
use Rattle.code_table.specs.Fitting.{slots_from, names, text_at}
use Rattle.code_table.proofs.LookupLemmas.{number_below}
use Rattle.law_programs.proofs.ScopeLemmas.{equal_texts, or_cases, text_both}

-- Captured names

abbrev chosen : Bool → Option ℕ → Option ℕ
chosen true o = Some 0
chosen false o = option_map suc o

number_cons : (l x : Text) (xs : List Text) → number_of l (x ∷ xs) ≡ chosen (same_text l x) (number_of l xs)
number_cons l x xs = elim (same_text l x) as (λ (b : Bool). elim b [ true ↦ Some 0 | false ↦ option_map suc (number_of l xs) ] ≡ chosen b (number_of l xs)) [ true ↦ refl | false ↦ refl ]

abbrev Stands : Text → List Text → Option ℕ → Type 0
Stands l xs None = has_text l xs ≡ false
Stands l xs (Some i) = l ≡ text_at i xs

stands_chosen : (l x : Text) (xs : List Text) (b : Bool) (o : Option ℕ) → same_text l x ≡ b → Stands l xs o → Stands l (x ∷ xs) (chosen b o)
stands_chosen l x xs true o e s = equal_texts l x e
stands_chosen l x xs false None e s = (λ i. e i || s i)
stands_chosen l x xs false (Some i) e s = s

stands : (l : Text) (xs : List Text) → Stands l xs (number_of l xs)
stands l [] = refl
stands l (x ∷ xs) = subst (Stands l (x ∷ xs)) (sym (number_cons l x xs)) (stands_chosen l x xs (same_text l x) (number_of l xs) refl (stands l xs))

pub number_text : (l : Text) (xs : List Text) (i : ℕ) → number_of l xs ≡ Some i → l ≡ text_at i xs
number_text l xs i e = subst (Stands l xs) e (stands l xs)

pub numbered : (l : Text) (xs : List Text) → has_text l xs ≡ true → number_of l xs ≡ None → ⊥
numbered l xs h e = subst T (sym h ∙ subst (Stands l xs) e (stands l xs)) tt

-- Bound names

unlocated : (x : Text) (scope : Environment) → location_of x scope ≡ None → has_text x (names scope) ≡ false
unlocated x [] e = refl
unlocated x (b ∷ bs) e = by (same_text x b.0) refl e (unlocated x bs)
  where
    by : (t : Bool) → same_text x b.0 ≡ t → ◌≡◌ {A = Option ℕ} (elim t [ true ↦ Some b.1 | false ↦ location_of x bs ]) None → (location_of x bs ≡ None → has_text x (names bs) ≡ false) → has_text x (names (b ∷ bs)) ≡ false
    by true s e next = cc
    by false s e next = λ i. s i || next e i

-- a name that is not bound within was captured
pub captured_here : (x : Text) (scope : Environment) (xs : List Text) → location_of x scope ≡ None → has_text x (names scope ++ xs) ≡ true → has_text x xs ≡ true
captured_here x scope xs e h = ⊎_elim
    (λ k. absurd (subst T (sym k ∙ unlocated x scope e) tt))
    (λ k. k)
    (or_cases (has_text x (names scope)) (has_text x xs) (sym (text_both x (names scope) xs) ∙ h))

pub kept_fits : (x : Text) (scope : Environment) (xs : List Text) (k : ℕ) → location_of x scope ≡ None → number_of x xs ≡ Some k → (k < length xs) × (has_text (text_at k xs) (names scope) ≡ false)
kept_fits x scope xs k e h = (number_below x xs k h, subst (λ (y : Text). has_text y (names scope) ≡ false) (number_text x xs k h) (unlocated x scope e))

-- Heads

pub names_slots : (h : ℕ) (xs : List Text) → names (slots_from h xs) ≡ xs
names_slots h [] = refl
names_slots h (x ∷ xs) = ap (λ (ys : List Text). x ∷ ys) (names_slots (suc h) xs)

pub length-slots : (h : ℕ) (xs : List Text) → length (slots_from h xs) ≡ length xs
length-slots h [] = refl
length-slots h (x ∷ xs) = ap suc (length-slots (suc h) xs)

pub slots_snoc : (h : ℕ) (xs : List Text) (x : Text) → slots_from h (xs ++ x ∷ []) ≡ slots_from h xs ++ (x, h + length xs) ∷ []
slots_snoc h [] x = let e : h ≡ h + 0 = omega arith in ap (λ (k : ℕ). (x, k) ∷ []) e
slots_snoc h (y ∷ xs) x =
    let e : suc h + length xs ≡ h + suc (length xs) = omega arith in
    ap (λ (l : Environment). (y, h) ∷ l) (slots_snoc (suc h) xs x ∙ ap (λ (k : ℕ). slots_from (suc h) xs ++ (x, k) ∷ []) e)
