-- Scopes, and what their names stand for in an environment.
use Rattle.std.proofs.Common.{◌≡◌, ℕ, suc, ◌+◌, ◌<◌, ◌≤◌, Bool, true, false, T, List, [], ◌∷◌, ◌++◌, Option, Some, None, length, take, get_or, refl, sym, ap, subst, ◌∙◌, arith}
use Rattle.std.proofs.Math.ListN.{get_or-append}
use Rattle.std.proofs.lemmas.List.{get_or-take}
use Rattle.asp_model.specs.Names.{Text, same_text}
use Rattle.asp_model.specs.Term.{Environment, has_text, location_of}
use Rattle.code_table.specs.Fitting.{slots_from, names, placed, Under}
use Rattle.code_laws.proofs.TwiceLemmas.{look, look_cons, missing_named}

-- Names

pub names_from : (h : ℕ) (xs : List Text) → names (slots_from h xs) ≡ xs
names_from h [] = refl
names_from h (x ∷ xs) = ap (λ (ys : List Text). x ∷ ys) (names_from (suc h) xs)

pub names_append : (d e : Environment) → names (d ++ e) ≡ names d ++ names e
names_append [] e = refl
names_append (b ∷ d) e = ap (λ (ys : List Text). b.0 ∷ ys) (names_append d e)

pub names_inner : (h : ℕ) (xs : List Text) (scope : Environment) → names (slots_from h xs ++ scope) ≡ xs ++ names scope
names_inner h xs scope = names_append (slots_from h xs) scope ∙ ap (λ (ys : List Text). ys ++ names scope) (names_from h xs)

pub names_placed : (ns : List ℕ) (scope : Environment) → names (placed ns scope) ≡ names scope
names_placed ns [] = refl
names_placed ns (b ∷ bs) = ap (λ (ys : List Text). b.0 ∷ ys) (names_placed ns bs)

-- a name with a slot is one of the scope's
pub found_named : (x : Text) (scope : Environment) (k : ℕ) → location_of x scope ≡ Some k → has_text x (names scope) ≡ true
found_named x scope k h = turn (has_text x (names scope)) refl
  where
    is_some : Option ℕ → Bool
    is_some None = false
    is_some (Some n) = true

    turn : (t : Bool) → has_text x (names scope) ≡ t → has_text x (names scope) ≡ true
    turn true e = e
    turn false e = absurd (subst T (ap is_some (sym h ∙ missing_named x scope e)) tt)

-- Slots

pub under_from : (h n : ℕ) (xs : List Text) → h + length xs ≤ n → Under n (slots_from h xs)
under_from h n [] le = tt
under_from h n (x ∷ xs) le = let here : h < n = omega (arith, le) in let more : suc h + length xs ≤ n = omega (arith, le) in (here, under_from (suc h) n xs more)

pub under_more : (h k : ℕ) (e : Environment) → h ≤ k → Under h e → Under k e
under_more h k [] le u = tt
under_more h k (b ∷ bs) le u = let low : b.1 < h = u.0 in let here : b.1 < k = omega (arith, le, low) in (here, under_more h k bs le u.1)

pub under_append : (h : ℕ) (d e : Environment) → Under h d → Under h e → Under h (d ++ e)
under_append h [] e u v = v
under_append h (b ∷ d) e u v = (u.0, under_append h d e u.1 v)

pub found_under : (x : Text) (h : ℕ) (scope : Environment) (k : ℕ) → Under h scope → location_of x scope ≡ Some k → k < h
found_under x h [] k u e = absurd (subst T (ap is_none e) tt)
  where
    is_none : Option ℕ → Bool
    is_none None = true
    is_none (Some n) = false
found_under x h (b ∷ bs) k u e = turn (same_text x b.0) (sym (look_cons x b bs) ∙ e) (found_under x h bs k u.1)
  where
    value : Option ℕ → ℕ
    value None = 0
    value (Some n) = n

    turn : (t : Bool) → look t b.1 (location_of x bs) ≡ Some k → (location_of x bs ≡ Some k → k < h) → k < h
    turn true q ih = subst (λ (n : ℕ). n < h) (ap value q) u.0
    turn false q ih = ih q

-- Places

abbrev pub in_slot : List ℕ → Option ℕ → Option ℕ
in_slot ns None = None
in_slot ns (Some k) = Some (get_or ns k 0)

look_in : (ns : List ℕ) (b : Bool) (k : ℕ) (o : Option ℕ) → look b (get_or ns k 0) (in_slot ns o) ≡ in_slot ns (look b k o)
look_in ns true k o = refl
look_in ns false k o = refl

-- a name stands for what stands in its slot
pub located : (x : Text) (ns : List ℕ) (scope : Environment) → location_of x (placed ns scope) ≡ in_slot ns (location_of x scope)
located x ns [] = refl
located x ns (b ∷ bs) =
    let c : Text × ℕ = (b.0, get_or ns b.1 0) in
    look_cons x c (placed ns bs) ∙ ap (look (same_text x b.0) (get_or ns b.1 0)) (located x ns bs)
    ∙ look_in ns (same_text x b.0) b.1 (location_of x bs) ∙ ap (in_slot ns) (sym (look_cons x b bs))

pub placed_append : (ns : List ℕ) (d e : Environment) → placed ns (d ++ e) ≡ placed ns d ++ placed ns e
placed_append ns [] e = refl
placed_append ns (b ∷ d) e = ap (λ (bs : Environment). (b.0, get_or ns b.1 0) ∷ bs) (placed_append ns d e)

-- what stands behind the slots of a scope is not looked at
pub placed_more : (ns ms : List ℕ) (scope : Environment) → Under (length ns) scope → placed (ns ++ ms) scope ≡ placed ns scope
placed_more ns ms [] u = refl
placed_more ns ms (b ∷ bs) u = λ i. (b.0, get_or-append ns ms 0 b.1 u.0 i) ∷ placed_more ns ms bs u.1 i

pub placed_cut : (h : ℕ) (ns : List ℕ) (scope : Environment) → Under h scope → placed (take h ns) scope ≡ placed ns scope
placed_cut h ns [] u = refl
placed_cut h ns (b ∷ bs) u = λ i. (b.0, get_or-take h ns b.1 0 u.0 i) ∷ placed_cut h ns bs u.1 i
