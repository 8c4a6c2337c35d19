-- Homes: the tests of homes and of the order of futures hold exactly where homes are right.
use Rattle.std.specs.Prelude.{◌≡◌, ℕ, suc, ◌≤◌, ◌&&◌, cond, Bool, true, false, T, List, [], ◌∷◌, ◌++◌, Option, Some, None, map}
use Rattle.std.specs.List.{list_all}
use Rattle.std.proofs.Common.{refl, sym, ap, subst, ◌∙◌, arith, append_assoc, inl, inr, ⊎_elim}
use Rattle.std.proofs.lemmas.Bool.{and_parts, and_from}
use Rattle.std.proofs.lemmas.List.{append-nil}
use Rattle.std.specs.declared.cmp.Ordering.{Ordering}
use Rattle.std.specs.declared.cmp.Ordering.TheVariants.{Less, Equal, Greater}
use Rattle.std.specs.Ordering.{is_eq, is_lt, ordering_reverse}
use Rattle.std.specs.Cmp.{tied_itself}
use Rattle.std.specs.FinMap.{find, is_sorted}
use Rattle.std.specs.FinMap.Entries.{below_all, find-append}
use Rattle.asp_model.specs.Names.{Name, FutureShape, future_cmp}
use Rattle.law_chases.proofs.FutureLemmas.{future_total, none_true}
use Rattle.law_steps.proofs.EntryLemmas.{In, first_of_both, second_of_both}
use Rattle.law_frozen.specs.Frozen.{FrozenActivity, FrozenShape}
use Rattle.law_checkpoints.specs.Lookups.{activity_of, IsHoused, number_in, sends_in}
use Rattle.law_checkpoints.specs.Sound.{StandOnce}
use Rattle.law_checkpoints.proofs.LookLemmas.{activity_there, there_activity}
use Rattle.checkpoint_checks.specs.Maps.{Homes, no_homes, with_home, with_homes}
use Rattle.checkpoint_checks.specs.Homes.{all_housed, ascend_from}
use Rattle.checkpoint_checks.proofs.SameLemmas.{Same, same_to}

-- Orders

true_is : (b : Bool) → b ≡ true → T b
true_is b e = subst T (sym e) tt

is_true : (b : Bool) → T b → b ≡ true
is_true true h = refl
is_true false h = absurd h

less_is : (r : Ordering) → is_lt r ≡ true → r ≡ Less
less_is Less e = refl
less_is Equal e = none_true e
less_is Greater e = none_true e

both_true : (a b : Bool) → T a → T b → T (a && b)
both_true a b h k = true_is (a && b) (and_from a b (is_true a h) (is_true b k))

before_all : {X : Type 0} (f g : FutureShape) (es : List (FutureShape × X)) → future_cmp f g ≡ Less → T (below_all future_cmp g es) → T (below_all future_cmp f es)
before_all f g [] p h = tt
before_all f g (e ∷ es) p h =
    let here : is_lt (future_cmp g e.0) ≡ true = is_true _ (first_of_both (is_lt (future_cmp g e.0)) (below_all future_cmp g es) h) in
    both_true (is_lt (future_cmp f e.0)) (below_all future_cmp f es)
    (true_is _ (ap is_lt (future_total.trans f g e.0 p (less_is _ here))))
    (before_all f g es p (second_of_both (is_lt (future_cmp g e.0)) (below_all future_cmp g es) h))

abbrev keys : {X : Type 0} → List (FutureShape × X) → List FutureShape
keys es = map (λ e. e.0) es

ascend_to : {X : Type 0} (f : FutureShape) (es : List (FutureShape × X)) → ascend_from (Some f) (keys es) ≡ true → T (below_all future_cmp f es) × T (is_sorted future_cmp es)
ascend_to f [] e = (tt, tt)
ascend_to f (x ∷ es) e =
    let p = and_parts (is_lt (future_cmp f x.0)) (ascend_from (Some x.0) (keys es)) e in
    let r = ascend_to x.0 es p.1 in (
      both_true (is_lt (future_cmp f x.0)) (below_all future_cmp f es) (true_is _ p.0) (before_all f x.0 es (less_is _ p.0) r.0),
      both_true (below_all future_cmp x.0 es) (is_sorted future_cmp es) r.0 r.1,
    )

ascend_of : {X : Type 0} (f : FutureShape) (es : List (FutureShape × X)) → T (below_all future_cmp f es) → T (is_sorted future_cmp es) → ascend_from (Some f) (keys es) ≡ true
ascend_of f [] b s = refl
ascend_of f (x ∷ es) b s = and_from (is_lt (future_cmp f x.0)) (ascend_from (Some x.0) (keys es))
    (is_true _ (first_of_both (is_lt (future_cmp f x.0)) (below_all future_cmp f es) b))
    (ascend_of x.0 es (first_of_both (below_all future_cmp x.0 es) (is_sorted future_cmp es) s) (second_of_both (below_all future_cmp x.0 es) (is_sorted future_cmp es) s))

pub same_sorted : {X : Type 0} (es : List (FutureShape × X)) → Same (ascend_from None (map (λ e. e.0) es)) (T (is_sorted future_cmp es))
same_sorted [] = record { to = λ e. tt; of = λ h. refl }
same_sorted (x ∷ es) = record {
  to = λ e. let r = ascend_to x.0 es e in both_true (below_all future_cmp x.0 es) (is_sorted future_cmp es) r.0 r.1;
  of = λ h. ascend_of x.0 es (first_of_both (below_all future_cmp x.0 es) (is_sorted future_cmp es) h) (second_of_both (below_all future_cmp x.0 es) (is_sorted future_cmp es) h);
}

-- Look-ups

apart_is : (f g : FutureShape) → future_cmp f g ≡ Less → is_eq (future_cmp g f) ≡ false
apart_is f g p = ap is_eq (future_total.antisymm g f ∙ ap ordering_reverse p)

below_there : {X : Type 0} (f : FutureShape) (before : List (FutureShape × X)) (e : FutureShape × X) (es : List (FutureShape × X)) → T (below_all future_cmp f (before ++ e ∷ es)) → is_lt (future_cmp f e.0) ≡ true
below_there f [] e es h = is_true _ (first_of_both (is_lt (future_cmp f e.0)) (below_all future_cmp f es) h)
below_there f (x ∷ before) e es h = below_there f before e es (second_of_both (is_lt (future_cmp f x.0)) (below_all future_cmp f (before ++ e ∷ es)) h)

new_home : {X : Type 0} (before : List (FutureShape × X)) (e : FutureShape × X) (es : List (FutureShape × X)) → T (is_sorted future_cmp (before ++ e ∷ es)) → find future_cmp e.0 before ≡ None
new_home [] e es h = refl
new_home (x ∷ before) e es h =
    let less = less_is _ (below_there x.0 before e es (first_of_both (below_all future_cmp x.0 (before ++ e ∷ es)) (is_sorted future_cmp (before ++ e ∷ es)) h)) in
    ap (λ b. cond b (Some x.1) (find future_cmp e.0 before)) (apart_is x.0 e.0 less)
    ∙ new_home before e es (second_of_both (below_all future_cmp x.0 (before ++ e ∷ es)) (is_sorted future_cmp (before ++ e ∷ es)) h)

homes_all : (before hs : List (FutureShape × Name)) (look : Homes) → ((g : FutureShape) → look g ≡ find future_cmp g before) → T (is_sorted future_cmp (before ++ hs)) → (g : FutureShape) → with_homes look hs g ≡ find future_cmp g (before ++ hs)
homes_all before [] look h s g = h g ∙ ap (find future_cmp g) (sym (append-nil before))
homes_all before (e ∷ hs) look h s g =
    let moved = append_assoc before (e ∷ []) hs in
    homes_all (before ++ e ∷ []) hs (with_home look e.0 e.1)
    (λ k. ap (cond (is_eq (future_cmp k e.0)) (Some e.1)) (h k) ∙ sym (find-append future_cmp future_total before e.0 e.1 k (new_home before e hs s)))
    (subst (λ xs. T (is_sorted future_cmp xs)) (sym moved) s) g
    ∙ ap (find future_cmp g) moved

pub homes_are : (hs : List (FutureShape × Name)) → T (is_sorted future_cmp hs) → (g : FutureShape) → with_homes no_homes hs g ≡ find future_cmp g hs
homes_are hs s = homes_all [] hs no_homes (λ g. refl) s

-- each entry is found, where the keys ascend
pub entry_there : {X : Type 0} (es : List (FutureShape × X)) (e : FutureShape × X) → T (is_sorted future_cmp es) → In e es → find future_cmp e.0 es ≡ Some e.1
entry_there [] e s i = absurd i
entry_there {X = X} (x ∷ es) e s i = ⊎_elim
    (λ p. ap (λ y. find future_cmp y.0 (x ∷ es)) p ∙ ap (λ b. cond b (Some x.1) (find future_cmp x.0 es)) (itself x.0) ∙ ap (λ y. Some y.1) (sym p))
    (λ j.
    let less = less_is _ (in_below x.0 es j (first_of_both (below_all future_cmp x.0 es) (is_sorted future_cmp es) s)) in
    ap (λ b. cond b (Some x.1) (find future_cmp e.0 es)) (apart_is x.0 e.0 less)
    ∙ entry_there es e (second_of_both (below_all future_cmp x.0 es) (is_sorted future_cmp es) s) j)
    i
  where
    itself : (g : FutureShape) → is_eq (future_cmp g g) ≡ true
    itself g = ap is_eq (tied_itself future_total g)

    in_below : (f : FutureShape) (ys : List (FutureShape × X)) → In e ys → T (below_all future_cmp f ys) → is_lt (future_cmp f e.0) ≡ true
    in_below f [] j h = absurd j
    in_below f (y ∷ ys) j h = ⊎_elim
        (λ p. ap (λ z. is_lt (future_cmp f z.0)) p ∙ is_true _ (first_of_both (is_lt (future_cmp f y.0)) (below_all future_cmp f ys) h))
        (λ k. in_below f ys k (second_of_both (is_lt (future_cmp f y.0)) (below_all future_cmp f ys) h))
        j

-- What was begun

abbrev pub AllBegun : FrozenShape → Type 0
AllBegun f = (n : Name) (i : ℕ) → suc i ≤ sends_in f.activities n → IsHoused f (record { by = n; index = suc i })

abbrev pub home_at : FrozenShape → Homes
home_at f g = find future_cmp g f.homes

pub same_begun : (f : FrozenShape) → StandOnce f.activities → Same (list_all (all_housed (home_at f)) f.activities) (AllBegun f)
same_begun f once = record {
  to = λ e n i le. found n i (activity_of n f.activities) refl le e;
  of = λ h. all_true f.activities (λ x i. (same_to _ x.activity.sends).of (λ k lt. h x.name k (subst (λ o. suc k ≤ number_in (λ y. y.activity.sends) o) (sym (there_activity f.activities x once i)) lt)));
}
  where
    all_true : (ys : List FrozenActivity) → ((x : FrozenActivity) → In x ys → all_housed (home_at f) x ≡ true) → list_all (all_housed (home_at f)) ys ≡ true
    all_true [] h = refl
    all_true (y ∷ ys) h = and_from _ _ (h y (inl refl)) (all_true ys (λ x i. h x (inr i)))

    one_true : (ys : List FrozenActivity) (x : FrozenActivity) → list_all (all_housed (home_at f)) ys ≡ true → In x ys → all_housed (home_at f) x ≡ true
    one_true [] x e i = absurd i
    one_true (y ∷ ys) x e i =
        let p = and_parts (all_housed (home_at f) y) (list_all (all_housed (home_at f)) ys) e in
        ⊎_elim (λ q. ap (all_housed (home_at f)) q ∙ p.0) (one_true ys x p.1) i

    found : (n : Name) (i : ℕ) (o : Option FrozenActivity) → activity_of n f.activities ≡ o → suc i ≤ number_in (λ y. y.activity.sends) o → list_all (all_housed (home_at f)) f.activities ≡ true → IsHoused f (record { by = n; index = suc i })
    found n i None p le e = absurd (omega (arith, le))
    found n i (Some x) p le e =
        let there = activity_there n f.activities x p in
        subst (λ m. IsHoused f (record { by = m; index = suc i })) there.1 ((same_to _ x.activity.sends).to (one_true f.activities x e there.0) i le)
