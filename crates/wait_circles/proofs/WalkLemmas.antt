-- What a walk keeps, step by step.
use Rattle.std.proofs.Common.{◌≡◌, ◌≢◌, ◌<◌, ℕ, zero, suc, nat_eq, Bool, true, false, List, [], ◌∷◌, ◌++◌, Option, Some, length, get_or, refl, sym, ap, subst, ◌∙◌, inl, inr, arith, eq-eqb, eqb-true}
use Rattle.std.proofs.lemmas.Bool.{eqb-false}
use Rattle.std.proofs.lemmas.List.{length-set, get_or-set_same, get_or-set_other}
use Rattle.std.proofs.Math.ListN.{set}
use Rattle.law_steps.specs.Linked.{Each}
use Rattle.law_chases.proofs.FutureLemmas.{true_false}
use Rattle.law_waits.specs.Courses.{ComesTo, GoesThrough, IsCircle, items_after}
use Rattle.law_waits.proofs.CourseLemmas.{AreApart, Came, apart_more, came_more, circle_of}
use Rattle.wait_circles.specs.declared.ways.End.{End}
use Rattle.wait_circles.specs.declared.ways.Mark.{Mark}
use Rattle.wait_circles.specs.declared.ways.Mark.TheVariants.{Fresh, Passed, Ends}
use Rattle.wait_circles.specs.Ways.{next_in}
use Rattle.wait_circles.specs.Walks.{mark_at, is_fresh, is_passed, fresh_in, has, IsSettledBy, IsWalked}

pub tied : (x y : ℕ) → nat_eq x y ≡ true → x ≡ y
tied = eqb-true

pub itself : (x : ℕ) → nat_eq x x ≡ true
itself x = eq-eqb x x refl

-- one is on its way: it is fresh, those before it lead to it, each once
pub record Goes (ns : List (Option ℕ)) (old : List Mark) (from : ℕ) (path : List ℕ) (at : ℕ) (ms : List Mark) : Type 0 where
  pub within : at < length ms
  pub fresh : mark_at ms at ≡ Fresh
  pub came : Came nat_eq tied itself (next_in ns) from path at
  pub apart : AreApart nat_eq tied itself path
  pub walked : IsWalked ns old path ms

-- Lists

abbrev or_else : Bool → Bool → Bool
or_else true b = true
or_else false b = b

abbrev pub or_has : Bool → Bool → Bool
or_has b c = elim b [ true ↦ true | false ↦ c ]

has_more : (x y : ℕ) (xs : List ℕ) → has x (xs ++ y ∷ []) ≡ or_else (has x xs) (nat_eq x y)
has_more x y [] = elim (nat_eq x y) as (λ b. or_has b false ≡ b) [ true ↦ refl | false ↦ refl ]
has_more x y (z ∷ xs) = elim (nat_eq x z) as (λ b. or_has b (has x (xs ++ y ∷ [])) ≡ or_else (or_has b (has x xs)) (nat_eq x y)) [
  | true ↦ refl
  | false ↦ has_more x y xs
]

has_last : (x : ℕ) (xs : List ℕ) → has x (xs ++ x ∷ []) ≡ true
has_last x xs = has_more x x xs ∙ elim (has x xs) as (λ b. or_else b (nat_eq x x) ≡ true) [ true ↦ refl | false ↦ itself x ]

has_still : (x y : ℕ) (xs : List ℕ) → has x xs ≡ true → has x (xs ++ y ∷ []) ≡ true
has_still x y xs h = has_more x y xs ∙ ap (λ b. or_else b (nat_eq x y)) h

each_more : (P : ℕ → Type 0) (xs : List ℕ) (y : ℕ) → Each P xs → P y → Each P (xs ++ y ∷ [])
each_more P [] y e p = (p, tt)
each_more P (x ∷ xs) y e p = (e.0, each_more P xs y e.1 p)

each_by : (P Q : ℕ → Type 0) (xs : List ℕ) → ((x : ℕ) → P x → Q x) → Each P xs → Each Q xs
each_by P Q [] f e = tt
each_by P Q (x ∷ xs) f e = (f x e.0, each_by P Q xs f e.1)

-- what all have the one at a number has
pub each_at : (P : ℕ → Type 0) (xs : List ℕ) (i : ℕ) → Each P xs → i < length xs → P (get_or xs i 0)
each_at P [] i e h = absurd (omega (arith, h))
each_at P (x ∷ xs) zero e h = e.0
each_at P (x ∷ xs) (suc i) e h = each_at P xs i e.1 (omega (arith, h))

not_in : (ms : List Mark) (at : ℕ) (path : List ℕ) → mark_at ms at ≡ Fresh → Each (λ k. is_fresh (mark_at ms k) ≡ false) path → has at path ≡ false
not_in ms at [] f e = refl
not_in ms at (y ∷ path) f e = elim (nat_eq at y) as (λ b. nat_eq at y ≡ b → elim b [ true ↦ true | false ↦ has at path ] ≡ false) [
  | true ↦ λ h. absurd (true_false true refl (sym (ap is_fresh (sym (ap (mark_at ms) (tied at y h)) ∙ f)) ∙ e.0))
  | false ↦ λ h. not_in ms at path f e.1
] refl

-- Marks

same_mark : (ms : List Mark) (i : ℕ) (m : Mark) → i < length ms → mark_at (set ms i m) i ≡ m
same_mark ms i m h = get_or-set_same ms i m Fresh h

other_mark : (ms : List Mark) (i j : ℕ) (m : Mark) → j ≢ i → mark_at (set ms i m) j ≡ mark_at ms j
other_mark ms i j m h = get_or-set_other ms i j m Fresh h

-- by whether it is the one that is marked
mark_by : (P : Mark → Type 0) (ms : List Mark) (i j : ℕ) (m : Mark) → i < length ms → (j ≡ i → P m) → (j ≢ i → P (mark_at ms j)) → P (mark_at (set ms i m) j)
mark_by P ms i j m h same other = by_test (nat_eq j i) refl
  where
    by_test : (b : Bool) → nat_eq j i ≡ b → P (mark_at (set ms i m) j)
    by_test true e = let d = tied j i e in subst P (sym (ap (mark_at (set ms i m)) d ∙ same_mark ms i m h)) (same d)
    by_test false e = let d : j ≢ i = eqb-false j i e in subst P (sym (other_mark ms i j m d)) (other d)

abbrev count_if : Bool → ℕ → ℕ
count_if b n = elim b [ true ↦ suc n | false ↦ n ]

pub fewer_fresh : (ms : List Mark) (i : ℕ) → i < length ms → mark_at ms i ≡ Fresh → fresh_in (set ms i Passed) < fresh_in ms
fewer_fresh [] i h f = absurd (omega (arith, h))
fewer_fresh (m ∷ ms) zero h f = subst (λ (x : Mark). fresh_in ms < count_if (is_fresh x) (fresh_in ms)) (sym f) (omega arith)
fewer_fresh (m ∷ ms) (suc i) h f = elim (is_fresh m) as (λ b. count_if b (fresh_in (set ms i Passed)) < count_if b (fresh_in ms)) [
  | true ↦ omega (arith, fewer_fresh ms i (omega (arith, h)) f)
  | false ↦ fewer_fresh ms i (omega (arith, h)) f
]

abbrev pub mark_if : Bool → Mark → Mark → Mark
mark_if b m n = elim b [ true ↦ m | false ↦ n ]

pub settled_more : (e : End) (y : ℕ) (p : List ℕ) (old ms : List Mark) → y < length ms → IsSettledBy e p old ms → IsSettledBy e (p ++ y ∷ []) old (set ms y (Ends e))
settled_more e y p old ms h s k = mark_by (λ m. m ≡ mark_if (has k (p ++ y ∷ [])) (Ends e) (mark_at old k)) ms y k (Ends e) h
    (λ d. sym (ap (λ b. mark_if b (Ends e) (mark_at old k)) (ap (λ z. has z (p ++ y ∷ [])) d ∙ has_last y p)))
    (λ d. s k ∙ ap (λ b. mark_if b (Ends e) (mark_at old k)) (sym (has_more k y p ∙ last_not (has k p) d)))
  where
    last_not : (b : Bool) → k ≢ y → or_else b (nat_eq k y) ≡ b
    last_not true d = refl
    last_not false d = unequal (nat_eq k y) refl
      where
        unequal : (c : Bool) → nat_eq k y ≡ c → nat_eq k y ≡ false
        unequal true q = absurd (d (tied k y q))
        unequal false q = q

-- Walks

module _ (ns : List (Option ℕ)) where
  through_all : (b : ℕ) (bs : List ℕ) (x : ℕ) → GoesThrough (next_in ns) b bs x → Each (λ k. ComesTo (next_in ns) k x) (b ∷ bs)
  through_all b [] x g = (inr ([], g), tt)
  through_all b (d ∷ bs) x g = (inr (d ∷ bs, g), through_all d bs x g.1)

  abbrev pub CameBy : ℕ → List ℕ → ℕ → Type 0
  CameBy = Came nat_eq tied itself (next_in ns)

  came_all : (first : ℕ) (bs : List ℕ) (x : ℕ) → CameBy first bs x → Each (λ k. ComesTo (next_in ns) k x) bs
  came_all first [] x c = tt
  came_all first (b ∷ bs) x c = through_all b bs x c.1

  pub begins : (first : ℕ) (bs : List ℕ) (x : ℕ) → CameBy first bs x → has first (bs ++ x ∷ []) ≡ true
  begins first [] x c = ap (λ z. has first (z ∷ [])) (sym c) ∙ has_last first []
  begins first (b ∷ bs) x c = ap (λ z. or_has z (has first (bs ++ x ∷ []))) (ap (nat_eq first) (sym c.0) ∙ itself first)

  -- at the start of a walk
  pub goes_first : (ms : List Mark) (from : ℕ) (path : List ℕ) → path ≡ [] → from < length ms → mark_at ms from ≡ Fresh → ((k : ℕ) → is_passed (mark_at ms k) ≡ false) → Goes ns ms from path from ms
  goes_first ms from path e h f r = subst (λ (p : List ℕ). Goes ns ms from p from ms) (sym e) (record {
    within = h;
    fresh = f;
    came = refl;
    apart = tt;
    walked = record { within = tt; passed = λ k p. absurd (true_false (is_passed (mark_at ms k)) p (r k)); marked = tt; ends = λ k x q. q; kept = λ k x q. q };
  })

  module _ (old : List Mark) (from : ℕ) (path : List ℕ) (at : ℕ) (ms : List Mark) (g : Goes ns old from path at ms) where
    abbrev pub further : List ℕ
    further = path ++ at ∷ []

    abbrev pub marked : List Mark
    marked = set ms at Passed

    same_size : length marked ≡ length ms
    same_size = length-set ms at Passed

    -- it is marked as passed
    pub walked_more : IsWalked ns old further marked
    walked_more = record {
      within = each_more _ path at (each_by _ _ path (λ x h. subst (λ n. x < n) (sym same_size) h) g.walked.within) (subst (λ n. at < n) (sym same_size) g.within);
      passed = λ k p. mark_by (λ m. is_passed m ≡ true → has k further ≡ true) ms at k Passed g.within (λ d q. ap (λ z. has z further) d ∙ has_last at path) (λ d q. has_still k at path (g.walked.passed k q)) p;
      marked = each_more _ path at (each_by _ _ path (λ k h. mark_by (λ m. is_fresh m ≡ false) ms at k Passed g.within (λ d. refl) (λ d. h)) g.walked.marked) (ap is_fresh (same_mark ms at Passed g.within));
      ends = λ k e p. mark_by (λ m. m ≡ Ends e → mark_at old k ≡ Ends e) ms at k Passed g.within (λ d q. let bad : Passed ≡ Ends e = q in cc) (λ d q. g.walked.ends k e q) p;
      kept = λ k e p. mark_by (λ m. mark_at ms k ≡ Ends e → m ≡ Ends e) ms at k Passed g.within (λ d q. let bad : Fresh ≡ Ends e = sym g.fresh ∙ sym (ap (mark_at ms) d) ∙ q in cc) (λ d q. q) (g.walked.kept k e p);
    }

    apart_then : AreApart nat_eq tied itself further
    apart_then = apart_more nat_eq tied itself at path g.apart (not_in ms at path g.fresh g.walked.marked)

    came_then : (to : ℕ) → next_in ns at ≡ Some to → CameBy from further to
    came_then to e = came_more nat_eq tied itself (next_in ns) from path at to g.came e

    pub lead_then : (to : ℕ) → next_in ns at ≡ Some to → Each (λ k. ComesTo (next_in ns) k to) further
    lead_then to e = came_all from further to (came_then to e)

    pub lead_last : Each (λ k. ComesTo (next_in ns) k at) further
    lead_last = each_more _ path at (came_all from path at g.came) (inl refl)

    -- it goes on
    pub goes_on : (to : ℕ) → next_in ns at ≡ Some to → to < length ms → mark_at marked to ≡ Fresh → Goes ns old from further to marked
    goes_on to e h f = record { within = subst (λ n. to < n) (sym same_size) h; fresh = f; came = came_then to e; apart = apart_then; walked = walked_more }

    -- it comes back
    pub circle_then : (to : ℕ) → next_in ns at ≡ Some to → mark_at marked to ≡ Passed → IsCircle (next_in ns) to (items_after nat_eq to further)
    circle_then to e p = circle_of nat_eq tied itself (next_in ns) from further to (came_then to e) apart_then (walked_more.passed to (ap is_passed p))
