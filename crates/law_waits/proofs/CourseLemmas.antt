-- A course from one to the next is told within as many steps as there are items, and what is told of it is so.
use Rattle.std.specs.Prelude.{◌≡◌, ◌≢◌, ◌≤◌, ◌+◌, ℕ, zero, suc, Bool, true, false, List, [], ◌∷◌, ◌++◌, Option, Some, None, length}
use Rattle.std.proofs.Common.{refl, sym, ap, subst, ◌∙◌, arith, inl, inr, length-append}
use Rattle.law_steps.specs.Linked.{Each}
use Rattle.law_chases.proofs.FutureLemmas.{none_true, true_false}
use Rattle.law_waits.specs.Courses.{Course, Stops, Circles, has_item, items_after, course_from, GoesThrough, ComesTo, IsCircle, IsCourse}

module _ {X : Type 0} (same : X → X → Bool) (tied : (x y : X) → same x y ≡ true → x ≡ y) (itself : (x : X) → same x x ≡ true) where
  -- Tests

  apart_of : (x y : X) → same x y ≡ false → x ≢ y
  apart_of x y h e = true_false (same x y) (ap (same x) (sym e) ∙ itself x) h

  same_by : (x y : X) → (x ≢ y) → (b : Bool) → same x y ≡ b → same x y ≡ false
  same_by x y apart true h = absurd (apart (tied x y h))
  same_by x y apart false h = h

  same_of : (x y : X) → (x ≢ y) → same x y ≡ false
  same_of x y apart = same_by x y apart (same x y) refl

  turned : (x y : X) → same x y ≡ false → same y x ≡ false
  turned x y h = same_of y x (λ e. apart_of x y h (sym e))

  abbrev or_on : Bool → Bool → Bool
  or_on b c = elim b [ true ↦ true | false ↦ c ]

  or_first : (b c : Bool) → or_on b c ≡ false → b ≡ false
  or_first true c h = h
  or_first false c h = refl

  or_second : (b c : Bool) → or_on b c ≡ false → c ≡ false
  or_second true c h = absurd (true_false true refl h)
  or_second false c h = h

  or_both : (b c : Bool) → b ≡ false → c ≡ false → or_on b c ≡ false
  or_both true c h k = h
  or_both false c h k = k

  -- Lists without repetitions

  abbrev pub AreApart : List X → Type 0
  AreApart [] = Unit {0}
  AreApart (x ∷ xs) = (has_item same x xs ≡ false) × AreApart xs

  none_more : (x y : X) (xs : List X) → same x y ≡ false → has_item same x xs ≡ false → has_item same x (xs ++ y ∷ []) ≡ false
  none_more x y [] h k = or_both (same x y) false h refl
  none_more x y (z ∷ xs) h k = or_both (same x z) _ (or_first (same x z) _ k) (none_more x y xs h (or_second (same x z) _ k))

  pub apart_more : (y : X) (xs : List X) → AreApart xs → has_item same y xs ≡ false → AreApart (xs ++ y ∷ [])
  apart_more y [] a h = (refl, tt)
  apart_more y (x ∷ xs) a h = (none_more x y xs (turned y x (or_first (same y x) _ h)) a.0, apart_more y xs a.1 (or_second (same y x) _ h))

  none_is : (x : X) (xs : List X) → has_item same x xs ≡ false → Each (λ y. y ≢ x) xs
  none_is x [] h = tt
  none_is x (y ∷ xs) h = (λ e. apart_of x y (or_first (same x y) _ h) (sym e), none_is x xs (or_second (same x y) _ h))

  -- Each of them among these

  abbrev without : X → List X → List X
  without x [] = []
  without x (k ∷ ks) = elim (same x k) [ true ↦ ks | false ↦ k ∷ without x ks ]

  shorter : (x : X) (ks : List X) → has_item same x ks ≡ true → suc (length (without x ks)) ≡ length ks
  shorter x [] h = none_true h
  shorter x (k ∷ ks) h = elim (same x k) as (λ b. or_on b (has_item same x ks) ≡ true → suc (length {A = X} (elim b [ true ↦ ks | false ↦ k ∷ without x ks ])) ≡ suc (length ks)) [
    | true ↦ λ h. refl
    | false ↦ λ h. ap suc (shorter x ks h)
  ] h

  still : (x y : X) (ks : List X) → y ≢ x → has_item same y ks ≡ true → has_item same y (without x ks) ≡ true
  still x y [] apart h = none_true h
  still x y (k ∷ ks) apart h = elim (same x k) as (λ b. same x k ≡ b → has_item same y (elim b [ true ↦ ks | false ↦ k ∷ without x ks ]) ≡ true) [
    | true ↦ λ e. elim (same y k) as (λ b. same y k ≡ b → or_on b (has_item same y ks) ≡ true → has_item same y ks ≡ true) [
      | true ↦ λ d h. absurd (apart (tied y k d ∙ sym (tied x k e)))
      | false ↦ λ d h. h
    ] refl h
    | false ↦ λ e. elim (same y k) as (λ b. or_on b (has_item same y ks) ≡ true → or_on b (has_item same y (without x ks)) ≡ true) [
      | true ↦ λ h. refl
      | false ↦ λ h. still x y ks apart h
    ] h
  ] refl

  all_still : (x : X) (xs ks : List X) → has_item same x xs ≡ false → Each (λ y. has_item same y ks ≡ true) xs → Each (λ y. has_item same y (without x ks) ≡ true) xs
  all_still x [] ks h e = tt
  all_still x (y ∷ xs) ks h e = (still x y ks (λ d. apart_of x y (or_first (same x y) _ h) (sym d)) e.0, all_still x xs ks (or_second (same x y) _ h) e.1)

  -- items apart, each among these, are no more
  no_more : (xs ks : List X) → AreApart xs → Each (λ x. has_item same x ks ≡ true) xs → length xs ≤ length ks
  no_more [] ks a e = omega arith
  no_more (x ∷ xs) ks a e = omega (arith, no_more xs (without x ks) a.1 (all_still x xs ks a.0 e.1), shorter x ks e.0)

  -- Courses

  module _ (next : X → Option X) where
    abbrev pub Came : X → List X → X → Type 0
    Came first [] x = first ≡ x
    Came first (b ∷ bs) x = (first ≡ b) × GoesThrough next b bs x

    through_more : (b : X) (bs : List X) (x y : X) → GoesThrough next b bs x → next x ≡ Some y → GoesThrough next b (bs ++ x ∷ []) y
    through_more b [] x y g e = (g, e)
    through_more b (d ∷ bs) x y g e = (g.0, through_more d bs x y g.1 e)

    pub came_more : (first : X) (before : List X) (x y : X) → Came first before x → next x ≡ Some y → Came first (before ++ x ∷ []) y
    came_more first [] x y c e = (c, e)
    came_more first (b ∷ bs) x y c e = (c.0, through_more b bs x y c.1 e)

    pub comes_to : (first : X) (before : List X) (x : X) → Came first before x → ComesTo next first x
    comes_to first [] x c = inl c
    comes_to first (b ∷ bs) x c = inr (bs, subst (λ z. GoesThrough next z bs x) (sym c.0) c.1)

    -- from where y stands among them, on to y
    part : (b : X) (bs : List X) (y : X) → GoesThrough next b bs y → has_item same y (b ∷ bs) ≡ true → GoesThrough next y (items_after same y (b ∷ bs)) y
    part b [] y g h = elim (same y b) as (λ t. same y b ≡ t → or_on t false ≡ true → GoesThrough next y (elim t [ true ↦ [] | false ↦ [] ]) y) [
      | true ↦ λ e h. subst (λ z. next z ≡ Some y) (sym (tied y b e)) g
      | false ↦ λ e h. none_true h
    ] refl h
    part b (d ∷ bs) y g h = elim (same y b) as (λ t. same y b ≡ t → or_on t (has_item same y (d ∷ bs)) ≡ true → GoesThrough next y (elim t [ true ↦ d ∷ bs | false ↦ items_after same y (d ∷ bs) ]) y) [
      | true ↦ λ e h. subst (λ z. GoesThrough next z (d ∷ bs) y) (sym (tied y b e)) g
      | false ↦ λ e h. part d bs y g.1 h
    ] refl h

    others_apart : (bs : List X) (y : X) → AreApart bs → Each (λ z. z ≢ y) (items_after same y bs)
    others_apart [] y a = tt
    others_apart (b ∷ bs) y a = elim (same y b) as (λ t. same y b ≡ t → Each (λ z. z ≢ y) (elim t [ true ↦ bs | false ↦ items_after same y bs ])) [
      | true ↦ λ e. none_is y bs (ap (λ z. has_item same z bs) (tied y b e) ∙ a.0)
      | false ↦ λ e. others_apart bs y a.1
    ] refl

    pub circle_of : (first : X) (bs : List X) (y : X) → Came first bs y → AreApart bs → has_item same y bs ≡ true → IsCircle next y (items_after same y bs)
    circle_of first [] y c a h = none_true h
    circle_of first (b ∷ bs) y c a h = (part b bs y c.1 h, others_apart (b ∷ bs) y a)

    module _ (P : X → Type 0) (onward : (x y : X) → P x → next x ≡ Some y → P y) (ks : List X) (among : (x : X) → P x → has_item same x ks ≡ true) where
      abbrev pub StopsAt : Course X → Type 0
      StopsAt (Stops last) = P last
      StopsAt (Circles first others) = Unit {0}

      abbrev pub IsTold : X → Option (Course X) → Type 0
      IsTold first o = (z : Course X) × (o ≡ Some z) × IsCourse next first z × StopsAt z

      each_more : (xs : List X) (y : X) → Each P xs → P y → Each P (xs ++ y ∷ [])
      each_more [] y e p = (p, tt)
      each_more (x ∷ xs) y e p = (e.0, each_more xs y e.1 p)

      each_among : (xs : List X) → Each P xs → Each (λ x. has_item same x ks ≡ true) xs
      each_among [] e = tt
      each_among (x ∷ xs) e = (among x e.0, each_among xs e.1)

      last_of : (xs : List X) (y : X) → Each P (xs ++ y ∷ []) → P y
      last_of [] y e = e.0
      last_of (x ∷ xs) y e = last_of xs y e.1

      abbrev round_by : Bool → Course X → Option (Course X) → Option (Course X)
      round_by b z o = elim b [ true ↦ Some z | false ↦ o ]

      told_from : (n : ℕ) (first : X) (before : List X) (x : X) → length before + n ≡ length ks → Came first before x → AreApart (before ++ x ∷ []) → Each P (before ++ x ∷ []) → IsTold first (course_from same next n before x)
      told_from zero first before x le came apart each = absurd (omega (arith, le, no_more (before ++ x ∷ []) ks apart (each_among (before ++ x ∷ []) each), length-append before (x ∷ [])))
      told_from (suc n) first before x le came apart each = elim (next x) as (λ o. next x ≡ o → IsTold first (elim o [ None ↦ Some (Stops x) | Some y ↦ round_by (has_item same y (before ++ x ∷ [])) (Circles y (items_after same y (before ++ x ∷ []))) (course_from same next n (before ++ x ∷ []) y) ])) [
        | None ↦ λ e. (Stops x, refl, (comes_to first before x came, e), last_of before x each)
        | Some y ↦ λ e.
            let bs = before ++ x ∷ [] in
            let on = came_more first before x y came e in
            elim (has_item same y bs) as (λ b. has_item same y bs ≡ b → IsTold first (round_by b (Circles y (items_after same y bs)) (course_from same next n bs y))) [
              | true ↦ λ h. (Circles y (items_after same y bs), refl, (comes_to first bs y on, circle_of first bs y on apart h), tt)
              | false ↦ λ h. told_from n first bs y (let l : length bs ≡ length before + 1 = length-append before (x ∷ []) in omega (arith, le, l)) on (apart_more y bs apart h) (each_more bs y each (onward x y (last_of before x each) e))
            ] refl
      ] refl

      -- the course from each that has what all have
      pub told : (n : ℕ) (x : X) → n ≡ length ks → P x → IsTold x (course_from same next n [] x)
      told n x e p = told_from n x [] x (omega (arith, e)) refl (refl, tt) (p, tt)
