-- Proper terms under more names, with locations in place of names, and with other locations.
use Rattle.std.specs.Prelude.{◌≡◌, ℕ, suc, ◌||◌, Bool, true, false, List, [], ◌∷◌, ◌++◌, Option, Some, None, ◌⊎◌}
use Rattle.std.proofs.Common.{refl, sym, ap, subst, ◌∙◌, inl, inr, ⊎_elim}
use Rattle.std.proofs.lemmas.Slice.Eq.{bytes_eq-Decides}
use Rattle.asp_model.specs.Names.{Text, same_text}
use Rattle.asp_model.specs.Term.{Loc, Var, Tree, Trees, node, none, more, binders, child_count, has_text, Environment, location_of, without, variable_or, put_in, put_below, moved, moved_below}
use Rattle.asp_model.specs.Readable.{HasArity}
use Rattle.law_chases.proofs.FutureLemmas.{none_true}
use Rattle.law_programs.specs.Proper.{IsProper, AreProper}

-- Texts

pub equal_texts : (x y : Text) → same_text x y ≡ true → x ≡ y
equal_texts x y e = (bytes_eq-Decides x y).0 e

-- a test by its answer
pub by_answer : {A : Type 0} (b : Bool) → (b ≡ true → A) → (b ≡ false → A) → A
by_answer true h k = h refl
by_answer false h k = k refl

pub or_cases : (b c : Bool) → (b || c) ≡ true → (b ≡ true) ⊎ (c ≡ true)
or_cases true c e = inl refl
or_cases false c e = inr e

pub or_left : (b c : Bool) → b ≡ true → (b || c) ≡ true
or_left b c e = rw e refl

pub or_right : (b c : Bool) → c ≡ true → (b || c) ≡ true
or_right true c e = refl
or_right false c e = e

pub text_both : (x : Text) (xs ys : List Text) → has_text x (xs ++ ys) ≡ (has_text x xs || has_text x ys)
text_both x [] ys = refl
text_both x (z ∷ xs) ys = elim (same_text x z) as (λ b. (b || has_text x (xs ++ ys)) ≡ ((b || has_text x xs) || has_text x ys)) [ true ↦ refl | false ↦ text_both x xs ys ]

-- More names

-- each text of the one list is one of the other
abbrev pub Within : List Text → List Text → Type 0
Within xs ys = (x : Text) → has_text x xs ≡ true → has_text x ys ≡ true

within_both : (zs xs ys : List Text) → Within xs ys → Within (zs ++ xs) (zs ++ ys)
within_both zs xs ys w x e = text_both x zs ys ∙ ⊎_elim
    (or_left (has_text x zs) (has_text x ys))
    (λ h. or_right (has_text x zs) (has_text x ys) (w x h))
    (or_cases (has_text x zs) (has_text x xs) (sym (text_both x zs xs) ∙ e))

mutual
  pub wider : (xs ys : List Text) → Within xs ys → (t : Tree) → IsProper xs t → IsProper ys t
  wider xs ys w (node (Var x) ts) h = (w x h.0, h.1, wider_below xs ys w [] ts h.2)
  wider xs ys w (node hd ts) h = (h.0, h.1, wider_below xs ys w (binders hd) ts h.2)

  pub wider_below : (xs ys : List Text) → Within xs ys → (names : List (List Text)) (ts : Trees) → AreProper xs names ts → AreProper ys names ts
  wider_below xs ys w names none h = tt
  wider_below xs ys w [] (more t ts) h = (wider xs ys w t h.0, wider_below xs ys w [] ts h.1)
  wider_below xs ys w (zs ∷ names) (more t ts) h = (wider (zs ++ xs) (zs ++ ys) (within_both zs xs ys w) t h.0, wider_below xs ys w names ts h.1)

-- what is proper where nothing is bound is so under all names
pub from_none : (ys : List Text) (t : Tree) → IsProper [] t → IsProper ys t
from_none ys = wider [] ys (λ x e. none_true e)

-- Locations in place of names

-- each of these names that has no location is one of those
abbrev pub Leaves : Environment → List Text → List Text → Type 0
Leaves bs xs ys = (x : Text) → has_text x xs ≡ true → location_of x bs ≡ None → has_text x ys ≡ true

other_names : (x : Text) (zs : List Text) (bs : Environment) → has_text x zs ≡ false → location_of x (without zs bs) ≡ location_of x bs
other_names x zs [] n = refl
other_names x zs (b ∷ bs) n = elim (has_text b.0 zs) as (λ d. has_text b.0 zs ≡ d → location_of x (elim d [ true ↦ without zs bs | false ↦ b ∷ without zs bs ]) ≡ elim (same_text x b.0) [ true ↦ Some b.1 | false ↦ location_of x bs ]) [
  | true ↦ λ d. elim (same_text x b.0) as (λ e. same_text x b.0 ≡ e → location_of x (without zs bs) ≡ elim e [ true ↦ Some b.1 | false ↦ location_of x bs ]) [
    | true ↦ λ e. none_true (sym n ∙ (ap (λ y. has_text y zs) (equal_texts x b.0 e) ∙ d))
    | false ↦ λ e. other_names x zs bs n
  ] refl
  | false ↦ λ d. ap (λ (o : Option ℕ). elim (same_text x b.0) [ true ↦ Some b.1 | false ↦ o ]) (other_names x zs bs n)
] refl

leaves_inside : (bs : Environment) (zs xs ys : List Text) → Leaves bs xs ys → Leaves (without zs bs) (zs ++ xs) (zs ++ ys)
leaves_inside bs zs xs ys w x e n = text_both x zs ys ∙ by_answer (has_text x zs)
    (or_left (has_text x zs) (has_text x ys))
    (λ d. or_right (has_text x zs) (has_text x ys) (w x (⊎_elim (λ a. none_true (sym d ∙ a)) (λ a. a) (or_cases (has_text x zs) (has_text x xs) (sym (text_both x zs xs) ∙ e))) (sym (other_names x zs bs d) ∙ n)))

put_count : (bs : Environment) (names : List (List Text)) (ts : Trees) → child_count (put_below bs names ts) ≡ child_count ts
put_count bs names none = refl
put_count bs [] (more t ts) = ap (λ k. suc k) (put_count bs [] ts)
put_count bs (xs ∷ names) (more t ts) = ap (λ k. suc k) (put_count bs names ts)

found_proper : (ys : List Text) (x : Text) (o : Option ℕ) → (o ≡ None → has_text x ys ≡ true) → IsProper ys (variable_or x o)
found_proper ys x None h = (h refl, refl, tt)
found_proper ys x (Some n) h = (refl, refl, tt)

mutual
  pub put_proper : (bs : Environment) (xs ys : List Text) → Leaves bs xs ys → (t : Tree) → IsProper xs t → IsProper ys (put_in bs t)
  put_proper bs xs ys w (node (Var x) ts) h = found_proper ys x (location_of x bs) (w x h.0)
  put_proper bs xs ys w (node hd ts) h = (h.0, subst (HasArity hd) (sym (put_count bs (binders hd) ts)) h.1, put_below_proper bs xs ys w (binders hd) ts h.2)

  put_below_proper : (bs : Environment) (xs ys : List Text) → Leaves bs xs ys → (names : List (List Text)) (ts : Trees) → AreProper xs names ts → AreProper ys names (put_below bs names ts)
  put_below_proper bs xs ys w names none h = tt
  put_below_proper bs xs ys w [] (more t ts) h = (put_proper bs xs ys w t h.0, put_below_proper bs xs ys w [] ts h.1)
  put_below_proper bs xs ys w (zs ∷ names) (more t ts) h = (put_proper (without zs bs) (zs ++ xs) (zs ++ ys) (leaves_inside bs zs xs ys w) t h.0, put_below_proper bs xs ys w names ts h.1)

-- Other locations

moved_count : (f : ℕ → ℕ) (ts : Trees) → child_count (moved_below f ts) ≡ child_count ts
moved_count f none = refl
moved_count f (more t ts) = ap (λ k. suc k) (moved_count f ts)

mutual
  pub moved_proper : (f : ℕ → ℕ) (xs : List Text) (t : Tree) → IsProper xs t → IsProper xs (moved f t)
  moved_proper f xs (node (Loc n) ts) h = (refl, moved_count f ts ∙ h.1, moved_below_proper f xs [] ts h.2)
  moved_proper f xs (node hd ts) h = (h.0, subst (HasArity hd) (sym (moved_count f ts)) h.1, moved_below_proper f xs (binders hd) ts h.2)

  moved_below_proper : (f : ℕ → ℕ) (xs : List Text) (names : List (List Text)) (ts : Trees) → AreProper xs names ts → AreProper xs names (moved_below f ts)
  moved_below_proper f xs names none h = tt
  moved_below_proper f xs [] (more t ts) h = (moved_proper f xs t h.0, moved_below_proper f xs [] ts h.1)
  moved_below_proper f xs (zs ∷ names) (more t ts) h = (moved_proper f (zs ++ xs) t h.0, moved_below_proper f xs names ts h.1)
