-- Terms whose variables are bound, and the names that they leave free.
use Rattle.std.proofs.Common.{◌≡◌, Bool, true, false, ◌||◌, List, [], ◌∷◌, ◌++◌, ◌⊎◌, refl, sym, ap, subst, ◌∙◌, T, arith, inl, inr, ⊎_elim}
use Rattle.std.proofs.lemmas.Slice.Eq.{bytes_eq-Decides}
use Rattle.asp_model.specs.Names.{Text, same_text}
use Rattle.asp_model.specs.Term.{Head, Loc, Hole, Var, Tree, Trees, node, none, more, binders, child_count, has_text}
use Rattle.asp_model.specs.Readable.{HasArity, IsReadable, AreReadable, is_written}
use Rattle.law_programs.specs.Proper.{is_proper_node, IsProper, AreProper}
use Rattle.law_programs.proofs.ScopeLemmas.{or_cases, or_left, or_right, text_both, Within}
use Rattle.code_compiler.specs.Closed.{is_closed_node, IsClosed, AreClosed}
use Rattle.code_compiler.specs.Free.{with_name, with_free, free_in, free_below}
use Rattle.code_compiler.specs.Compiled.{AreAmong}

-- What was read and is proper

closed_node : (bound : List Text) (h : Head) → is_written h ≡ true → is_proper_node bound h ≡ true → is_closed_node bound h ≡ true
closed_node bound (Loc n) w p = w
closed_node bound Hole w p = w
closed_node bound (Var x) w p = p
closed_node bound _ w p = refl

mutual
  pub closed_proper : (bound : List Text) (t : Tree) → IsReadable t → IsProper bound t → IsClosed bound t
  closed_proper bound (node h ts) r p = (closed_node bound h r.0 p.0, p.1, closed_below bound (binders h) ts r.2 p.2)

  closed_below : (bound : List Text) (names : List (List Text)) (ts : Trees) → AreReadable ts → AreProper bound names ts → AreClosed bound names ts
  closed_below bound names none r p = tt
  closed_below bound [] (more t ts) r p = (closed_proper bound t r.0 p.0, closed_below bound [] ts r.1 p.1)
  closed_below bound (xs ∷ names) (more t ts) r p = (closed_proper (xs ++ bound) t r.0 p.0, closed_below bound names ts r.1 p.1)

-- Names that are found

same_self : (x : Text) → same_text x x ≡ true
same_self x = (bytes_eq-Decides x x).1 refl

has_self : (x : Text) (xs : List Text) → has_text x (xs ++ x ∷ []) ≡ true
has_self x xs = text_both x xs (x ∷ []) ∙ or_right (has_text x xs) (has_text x (x ∷ [])) (ap (λ b. b || false) (same_self x))

within_left : (xs ys : List Text) → Within xs (xs ++ ys)
within_left xs ys x e = text_both x xs ys ∙ or_left (has_text x xs) (has_text x ys) e

within_right : (xs ys : List Text) → Within ys (xs ++ ys)
within_right xs ys x e = text_both x xs ys ∙ or_right (has_text x xs) (has_text x ys) e

within_with : (x : Text) (xs : List Text) → Within xs (with_name x xs)
within_with x xs = by (has_text x xs)
  where
    by : (b : Bool) → Within xs (elim b [ true ↦ xs | false ↦ xs ++ x ∷ [] ])
    by true = λ y e. e
    by false = within_left xs (x ∷ [])

has_with : (x : Text) (xs : List Text) → has_text x (with_name x xs) ≡ true
has_with x xs = by (has_text x xs) refl
  where
    by : (b : Bool) → has_text x xs ≡ b → has_text x (elim b [ true ↦ xs | false ↦ xs ++ x ∷ [] ]) ≡ true
    by true e = e
    by false e = has_self x xs

within_free : (bound xs : List Text) (x : Text) → Within xs (with_free bound xs x)
within_free bound xs x = by (has_text x bound)
  where
    by : (b : Bool) → Within xs (elim b [ true ↦ xs | false ↦ with_name x xs ])
    by true = λ y e. e
    by false = within_with x xs

-- the names that were found stay found

mutual
  found_stay : (bound xs : List Text) (t : Tree) → Within xs (free_in bound xs t)
  found_stay bound xs (node (Var x) ts) = within_free bound xs x
  found_stay bound xs (node h ts) = found_stay_below bound xs (binders h) ts

  found_stay_below : (bound xs : List Text) (names : List (List Text)) (ts : Trees) → Within xs (free_below bound xs names ts)
  found_stay_below bound xs names none = λ x e. e
  found_stay_below bound xs [] (more t ts) = λ x e. found_stay_below bound (free_in bound xs t) [] ts x (found_stay bound xs t x e)
  found_stay_below bound xs (ys ∷ names) (more t ts) = λ x e. found_stay_below bound (free_in (bound ++ ys) xs t) names ts x (found_stay (bound ++ ys) xs t x e)

-- A term is closed under the names bound in it and those that it leaves free

within_swapped : (bound ys all : List Text) → Within bound all → Within (bound ++ ys) (ys ++ all)
within_swapped bound ys all w x e = ⊎_elim
    (λ h. within_right ys all x (w x h))
    (λ h. within_left ys all x h)
    (or_cases (has_text x bound) (has_text x ys) (sym (text_both x bound ys) ∙ e))

within_under : (xs ys all : List Text) → Within xs all → Within xs (ys ++ all)
within_under xs ys all w x e = within_right ys all x (w x e)

variable_found : (bound xs all : List Text) (x : Text) → Within bound all → Within (with_free bound xs x) all → has_text x all ≡ true
variable_found bound xs all x b f = by (has_text x bound) refl f
  where
    by : (t : Bool) → has_text x bound ≡ t → Within (elim t [ true ↦ xs | false ↦ with_name x xs ]) all → has_text x all ≡ true
    by true e f = b x e
    by false e f = f x (has_with x xs)

mutual
  closed_free : (ns bound xs all : List Text) (t : Tree) → IsClosed ns t → Within bound all → Within (free_in bound xs t) all → IsClosed all t
  closed_free ns bound xs all (node (Var x) ts) c b f = (variable_found bound xs all x b f, c.1, no_more all ts c.1)
    where
      no_more : (all : List Text) (ts : Trees) → HasArity (Var x) (child_count ts) → AreClosed all [] ts
      no_more all none e = tt
      no_more all (more t ts) e = absurd (omega (arith, e))
  closed_free ns bound xs all (node (Loc n) ts) c b f = (c.0, c.1, closed_free_below ns bound xs all [] ts c.2 b f)
  closed_free ns bound xs all (node Hole ts) c b f = (c.0, c.1, closed_free_below ns bound xs all [] ts c.2 b f)
  closed_free ns bound xs all (node h ts) c b f = (c.0, c.1, closed_free_below ns bound xs all (binders h) ts c.2 b f)

  closed_free_below : (ns bound xs all : List Text) (names : List (List Text)) (ts : Trees) → AreClosed ns names ts → Within bound all → Within (free_below bound xs names ts) all → AreClosed all names ts
  closed_free_below ns bound xs all names none c b f = tt
  closed_free_below ns bound xs all [] (more t ts) c b f =
      (closed_free ns bound xs all t c.0 b (λ x e. f x (found_stay_below bound (free_in bound xs t) [] ts x e)), closed_free_below ns bound (free_in bound xs t) all [] ts c.1 b f)
  closed_free_below ns bound xs all (ys ∷ names) (more t ts) c b f = (
    closed_free (ys ++ ns) (bound ++ ys) xs (ys ++ all) t c.0 (within_swapped bound ys all b) (within_under (free_in (bound ++ ys) xs t) ys all (λ x e. f x (found_stay_below bound (free_in (bound ++ ys) xs t) names ts x e))),
    closed_free_below ns bound (free_in (bound ++ ys) xs t) all names ts c.1 b f,
  )

-- What it leaves free is bound round it

-- each name is bound within, or round it
abbrev Covers : List Text → List Text → List Text → Type 0
Covers bound outer ns = (x : Text) → has_text x ns ≡ true → (has_text x bound ≡ true) ⊎ (has_text x outer ≡ true)

covers_under : (bound outer ns ys : List Text) → Covers bound outer ns → Covers (bound ++ ys) outer (ys ++ ns)
covers_under bound outer ns ys c x e = ⊎_elim
    (λ h. inl (within_right bound ys x h))
    (λ h. ⊎_elim (λ k. inl (within_left bound ys x k)) (λ k. inr k) (c x h))
    (or_cases (has_text x ys) (has_text x ns) (sym (text_both x ys ns) ∙ e))

among_snoc : (x : Text) (xs outer : List Text) → AreAmong outer xs → has_text x outer ≡ true → AreAmong outer (xs ++ x ∷ [])
among_snoc x [] outer a h = (h, tt)
among_snoc x (y ∷ xs) outer a h = (a.0, among_snoc x xs outer a.1 h)

among_with : (x : Text) (xs outer : List Text) → AreAmong outer xs → has_text x outer ≡ true → AreAmong outer (with_name x xs)
among_with x xs outer a h = by (has_text x xs)
  where
    by : (b : Bool) → AreAmong outer (elim b [ true ↦ xs | false ↦ xs ++ x ∷ [] ])
    by true = a
    by false = among_snoc x xs outer a h

among_free : (bound xs outer : List Text) (x : Text) → AreAmong outer xs → (has_text x bound ≡ true) ⊎ (has_text x outer ≡ true) → AreAmong outer (with_free bound xs x)
among_free bound xs outer x a h = by (has_text x bound) refl
  where
    by : (b : Bool) → has_text x bound ≡ b → AreAmong outer (elim b [ true ↦ xs | false ↦ with_name x xs ])
    by true e = a
    by false e = ⊎_elim (λ k. absurd (subst T (sym k ∙ e) tt)) (λ k. among_with x xs outer a k) h

mutual
  free_among : (ns bound xs outer : List Text) (t : Tree) → IsClosed ns t → Covers bound outer ns → AreAmong outer xs → AreAmong outer (free_in bound xs t)
  free_among ns bound xs outer (node (Var x) ts) c v a = among_free bound xs outer x a (v x c.0)
  free_among ns bound xs outer (node h ts) c v a = free_among_below ns bound xs outer (binders h) ts c.2 v a

  free_among_below : (ns bound xs outer : List Text) (names : List (List Text)) (ts : Trees) → AreClosed ns names ts → Covers bound outer ns → AreAmong outer xs → AreAmong outer (free_below bound xs names ts)
  free_among_below ns bound xs outer names none c v a = a
  free_among_below ns bound xs outer [] (more t ts) c v a = free_among_below ns bound (free_in bound xs t) outer [] ts c.1 v (free_among ns bound xs outer t c.0 v a)
  free_among_below ns bound xs outer (ys ∷ names) (more t ts) c v a =
      free_among_below ns bound (free_in (bound ++ ys) xs t) outer names ts c.1 v (free_among (ys ++ ns) (bound ++ ys) xs outer t c.0 (covers_under bound outer ns ys v) a)

-- A method's body

-- it is closed under the names of its head and what it captures
pub body_closed : (head outer : List Text) (t : Tree) → IsClosed (head ++ outer) t → IsClosed (head ++ free_in head [] t) t
body_closed head outer t c =
    closed_free (head ++ outer) head [] (head ++ free_in head [] t) t c (within_left head (free_in head [] t)) (within_right head (free_in head [] t))

-- and what it captures is bound round its object
pub captured_among : (head outer : List Text) (t : Tree) → IsClosed (head ++ outer) t → AreAmong outer (free_in head [] t)
captured_among head outer t c =
    free_among (head ++ outer) head [] outer t c (λ x e. or_cases (has_text x head) (has_text x outer) (sym (text_both x head outer) ∙ e)) tt
