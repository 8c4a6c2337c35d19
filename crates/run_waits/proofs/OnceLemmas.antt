-- No name of a configuration stands twice.
use Rattle.std.proofs.Common.{◌≡◌, ℕ, zero, suc, Bool, true, false, T, List, [], ◌∷◌, Some, map, refl, sym, ap, subst, ◌∙◌}
use Rattle.std.specs.List.{slice_get}
use Rattle.std.specs.FinMap.{is_sorted}
use Rattle.std.specs.FinMap.Entries.{below_all}
use Rattle.std.specs.Ordering.{is_lt}
use Rattle.std.specs.Cmp.{tied_itself}
use Rattle.std.proofs.lemmas.Bool.{and_parts}
use Rattle.asp_model.specs.Names.{Name, name_cmp}
use Rattle.asp_model.specs.Configuration.{Activity, Configuration}
use Rattle.asp_model.specs.Outcome.{activity_report}
use Rattle.asp_model.specs.Shapes.{activity_shape}
use Rattle.asp_model.specs.declared.outcome.ActivityReport.{ActivityReport}
use Rattle.law_chases.proofs.FutureLemmas.{no_some, some_is, true_false}
use Rattle.law_steps.proofs.NameLemmas.{name_total}
use Rattle.wait_circles.specs.Whys.{AreOf, AreOnce, names_of}

abbrev keys : List (Name × Activity) → List Name
keys xs = map (λ x. x.0) xs

not_itself : (q : Name) → is_lt (name_cmp q q) ≡ false
not_itself q = ap is_lt (tied_itself name_total q)

later_apart : (q : Name) (xs : List (Name × Activity)) (j : ℕ) → below_all name_cmp q xs ≡ true → slice_get (keys xs) j ≡ Some q → ⊥
later_apart q [] j h at = no_some at
later_apart q (x ∷ xs) zero h at =
    let p = and_parts (is_lt (name_cmp q x.0)) (below_all name_cmp q xs) h in
    true_false (is_lt (name_cmp q x.0)) p.0 (ap (λ m. is_lt (name_cmp q m)) (some_is at) ∙ not_itself q)
later_apart q (x ∷ xs) (suc j) h at = later_apart q xs j (and_parts (is_lt (name_cmp q x.0)) (below_all name_cmp q xs) h).1 at

once_sorted : (xs : List (Name × Activity)) → is_sorted name_cmp xs ≡ true → AreOnce (keys xs)
once_sorted [] h i j n at there = no_some at
once_sorted (x ∷ xs) h zero zero n at there = refl
once_sorted (x ∷ xs) h zero (suc j) n at there = absurd (later_apart x.0 xs j (and_parts (below_all name_cmp x.0 xs) (is_sorted name_cmp xs) h).0 (there ∙ sym at))
once_sorted (x ∷ xs) h (suc i) zero n at there = absurd (later_apart x.0 xs i (and_parts (below_all name_cmp x.0 xs) (is_sorted name_cmp xs) h).0 (at ∙ sym there))
once_sorted (x ∷ xs) h (suc i) (suc j) n at there = ap suc (once_sorted xs (and_parts (below_all name_cmp x.0 xs) (is_sorted name_cmp xs) h).1 i j n at there)

names_are : (c : Configuration) (rs : List ActivityReport) (xs : List (Name × Activity)) → map activity_shape rs ≡ map (activity_report c) xs → names_of rs ≡ keys xs
names_are c [] [] e = refl
names_are c [] (x ∷ xs) e = let bad : [] ≡ activity_report c x ∷ map (activity_report c) xs = e in absurd cc
names_are c (a ∷ rs) [] e = let bad : activity_shape a ∷ map activity_shape rs ≡ [] = e in absurd cc
names_are c (a ∷ rs) (x ∷ xs) e = (λ i. first_is e i ∷ names_are c rs xs (rest_is e) i)
  where
    first_is : activity_shape a ∷ map activity_shape rs ≡ activity_report c x ∷ map (activity_report c) xs → a.name ≡ x.0
    first_is d = ap (λ z. z.name) (cons_first d)
      where
        cons_first : {X : Type 0} {v w : X} {vs ws : List X} → v ∷ vs ≡ w ∷ ws → v ≡ w
        cons_first b = cc

    rest_is : {X : Type 0} {v w : X} {vs ws : List X} → v ∷ vs ≡ w ∷ ws → vs ≡ ws
    rest_is d = cc

T_true : (b : Bool) → T b → b ≡ true
T_true true t = refl
T_true false t = absurd t

pub names_once : (c : Configuration) (rs : List ActivityReport) → AreOf c rs → T (is_sorted name_cmp c.activities) → AreOnce (names_of rs)
names_once c rs of h = subst AreOnce (sym (names_are c rs c.activities of)) (once_sorted c.activities (T_true (is_sorted name_cmp c.activities) h))
