-- Places under names, put back.
use Rattle.std.proofs.Common.{◌≡◌, ℕ, suc, ◌||◌, true, false, Bool, List, [], ◌∷◌, ◌++◌, Option, Some, None, length, map, refl, sym, ap, subst, ◌∙◌, arith}
use Rattle.std.proofs.lemmas.Slice.Eq.{bytes_eq-Decides}
use Rattle.asp_model.specs.Names.{Text, same_text}
use Rattle.asp_model.specs.Readable.{HasArity}
use Rattle.asp_model.specs.Term.{Head, Loc, Hole, Var, Tree, Trees, node, none, more, leaf, loc, Environment, binders, child_count, has_text, location_of, without, variable_or, put_in, put_below}
use Rattle.law_programs.specs.Proper.{IsProper, AreProper}
use Rattle.law_programs.proofs.ScopeLemmas.{or_left, or_right, text_both, Within}
use Rattle.code_compiler.specs.Closed.{IsClosed, AreClosed}
use Rattle.code_compiler.specs.Compiled.{variables}
use Rattle.frozen_code.specs.Named.{places_named, IsApart, AreApart, named, named_below, NonesIn, IsNameable, AreNameable, NamedAreClosed, NamesAreTakenBack}

mutual
  -- with the places put in for their names, a term is what it was
  pub named_back : (f : ℕ → Text) (e : Environment) (t : Tree) → IsNameable f e t → put_in e (named f t) ≡ t
  named_back f e (node (Loc n) ts) h = ap (variable_or (f n)) h.0.0 ∙ ap (node (Loc n)) (sym h.0.1)
  named_back f e (node (Var x) ts) h = ap (variable_or x) h.0.0 ∙ ap (node (Var x)) (sym h.0.1)
  named_back f e (node hd ts) h = ap (node hd) (all_back f e (binders hd) ts h.1 h.2)

  all_back : (f : ℕ → Text) (e : Environment) (names : List (List Text)) (ts : Trees) → NonesIn e names → AreNameable f e ts → put_below e names (named_below f ts) ≡ ts
  all_back f e names none n h = refl
  all_back f e [] (more t ts) n h = λ i. more (named_back f e t h.0 i) (all_back f e [] ts tt h.1 i)
  all_back f e (xs ∷ names) (more t ts) n h = λ i. more ((ap (λ (d : Environment). put_in d (named f t)) n.0 ∙ named_back f e t h.0) i) (all_back f e names ts n.1 h.1 i)

-- Names that are apart

same_itself : (x : Text) → same_text x x ≡ true
same_itself x = (bytes_eq-Decides x x).1 refl

located_first : (x : Text) (n : ℕ) (e : Environment) → location_of x ((x, n) ∷ e) ≡ Some n
located_first x n e = ap (λ (b : Bool). elim b [ true ↦ Some n | false ↦ location_of x e ]) (same_itself x)

-- a name that is none of those stands for what it stood for
put_past : (x : Text) (n : ℕ) (e : Environment) (xs : List Text) → IsApart x xs → map (put_in ((x, n) ∷ e)) (variables xs) ≡ map (put_in e) (variables xs)
put_past x n e [] h = refl
put_past x n e (y ∷ ys) h = λ i. variable_or y (elim (h.0 i) [ true ↦ Some n | false ↦ location_of y e ]) ∷ put_past x n e ys h.1 i

-- each name stands for its place
pub places_put : (xs : List Text) (ns : List ℕ) → AreApart xs → length xs ≡ length ns → map (put_in (places_named xs ns)) (variables xs) ≡ map loc ns
places_put [] [] a e = refl
places_put [] (n ∷ ns) a e = absurd (omega (arith, e))
places_put (x ∷ xs) [] a e = absurd (omega (arith, e))
places_put (x ∷ xs) (n ∷ ns) a e =
    let less : length xs ≡ length ns = omega (arith, e) in
    let d : Environment = places_named xs ns in
    λ i. variable_or x (located_first x n d i) ∷ (put_past x n d xs a.0 ∙ places_put xs ns a.1 less) i

-- A proper term whose places have names is closed under these

absurd_truth : {A : Type 0} → false ≡ true → A
absurd_truth e = cc

-- what has a place is one of the names
found : (x : Text) (xs : List Text) (ns : List ℕ) (n : ℕ) → location_of x (places_named xs ns) ≡ Some n → has_text x xs ≡ true
found x [] ns n e = cc
found x (y ∷ ys) [] n e = cc
found x (y ∷ ys) (m ∷ ns) n e = by (same_text x y) refl (λ h. found x ys ns n h) e
  where
    by : (b : Bool) → same_text x y ≡ b → (location_of x (places_named ys ns) ≡ Some n → has_text x ys ≡ true) → elim b [ true ↦ Some m | false ↦ location_of x (places_named ys ns) ] ≡ Some n → (same_text x y || has_text x ys) ≡ true
    by true q later h = or_left (same_text x y) (has_text x ys) q
    by false q later h = or_right (same_text x y) (has_text x ys) (later h)

within_right : (xs ys : List Text) → Within ys (xs ++ ys)
within_right xs ys x e = text_both x xs ys ∙ or_right (has_text x xs) (has_text x ys) e

-- what is among these or those is among these or more
either : (b c d : Bool) → (b || c) ≡ true → (c ≡ true → d ≡ true) → (b || d) ≡ true
either true c d e h = refl
either false c d e h = h e

within_both : (ys xs zs : List Text) → Within xs zs → Within (ys ++ xs) (ys ++ zs)
within_both ys xs zs w x e = text_both x ys zs ∙ either (has_text x ys) (has_text x xs) (has_text x zs) (sym (text_both x ys xs) ∙ e) (w x)

count_named : (f : ℕ → Text) (ts : Trees) → child_count (named_below f ts) ≡ child_count ts
count_named f none = refl
count_named f (more t ts) = ap suc (count_named f ts)

-- the names of an environment are among these
abbrev HasAll : Environment → List Text → Type 0
HasAll e all = (x : Text) (n : ℕ) → location_of x e ≡ Some n → has_text x all ≡ true

has_more : (e : Environment) (ys all : List Text) → HasAll e all → HasAll e (ys ++ all)
has_more e ys all h x n q = within_right ys all x (h x n q)

mutual
  closed_named : (f : ℕ → Text) (e : Environment) (bound all : List Text) (t : Tree) → HasAll e all → Within bound all → IsProper bound t → IsNameable f e t → IsClosed all (named f t)
  closed_named f e bound all (node (Loc n) ts) h w p m = (h (f n) n m.0.0, refl, tt)
  closed_named f e bound all (node Hole ts) h w p m = let no : false ≡ true = p.0 in absurd_truth no
  closed_named f e bound all (node (Var x) ts) h w p m = (w x p.0, subst (HasArity (Var x)) (sym (count_named f ts)) p.1, closed_below f e bound all [] ts h w p.2 m.2)
  closed_named f e bound all (node hd ts) h w p m = (refl, subst (HasArity hd) (sym (count_named f ts)) p.1, closed_below f e bound all (binders hd) ts h w p.2 m.2)

  closed_below : (f : ℕ → Text) (e : Environment) (bound all : List Text) (names : List (List Text)) (ts : Trees) → HasAll e all → Within bound all → AreProper bound names ts → AreNameable f e ts → AreClosed all names (named_below f ts)
  closed_below f e bound all names none h w p m = tt
  closed_below f e bound all [] (more t ts) h w p m = (closed_named f e bound all t h w p.0 m.0, closed_below f e bound all [] ts h w p.1 m.1)
  closed_below f e bound all (ys ∷ names) (more t ts) h w p m = (closed_named f e (ys ++ bound) (ys ++ all) t (has_more e ys all h) (within_both ys bound all w) p.0 m.0, closed_below f e bound all names ts h w p.1 m.1)

pub named_are_closed : NamedAreClosed
named_are_closed f xs ns t p m = closed_named f (places_named xs ns) [] xs t (λ x n e. found x xs ns n e) (λ x e. absurd_truth e) p m

pub names_are_taken_back : NamesAreTakenBack
names_are_taken_back = named_back
