-- Names: the tests of activities' names hold exactly where these stand once, each behind the one that created it, and all
-- that were created are there.
use Rattle.std.specs.Prelude.{◌≡◌, ℕ, zero, suc, ◌≤◌, ◌&&◌, not, cond, nat_le, Bool, true, false, List, [], ◌∷◌, ◌++◌, Option, Some, None, is_some}
use Rattle.std.specs.List.{list_all}
use Rattle.std.proofs.Common.{refl, sym, ap, subst, ◌∙◌, arith, append_assoc, inl, inr, ⊎_elim}
use Rattle.std.proofs.lemmas.Bool.{and_parts, and_from, not-true, leb-true, le-leb}
use Rattle.std.proofs.lemmas.List.{append-nil}
use Rattle.asp_model.specs.Names.{Name, main_name, created_name, same_name}
use Rattle.law_chases.proofs.FutureLemmas.{no_some, none_true}
use Rattle.law_steps.proofs.EntryLemmas.{In}
use Rattle.law_steps.proofs.NameLemmas.{names_tied, name_itself}
use Rattle.law_frozen.specs.Frozen.{FrozenActivity}
use Rattle.law_checkpoints.specs.Lookups.{activity_of, IsNamed, number_in, creations_in}
use Rattle.law_checkpoints.specs.Sound.{StandOnce, IsCreatedAmong, AreCreated, BeginWithMain}
use Rattle.law_checkpoints.proofs.LookLemmas.{activity_there, there_activity}
use Rattle.checkpoint_checks.specs.Maps.{Activities, nobody, with_activity, with_activities}
use Rattle.checkpoint_checks.specs.Names.{all_named, are_created, begin_with_main, creations_at, is_created, is_named, parted_behind}
use Rattle.checkpoint_checks.proofs.MapLemmas.{name_turned}
use Rattle.checkpoint_checks.proofs.NameLemmas.{created_at}
use Rattle.checkpoint_checks.proofs.SameLemmas.{Same, same_to}

-- Look-ups

-- what is looked up is the first of these that has the name
abbrev pub Looks : Activities → List FrozenActivity → Type 0
Looks look xs = (n : Name) → look n ≡ activity_of n xs

behind_front : (n : Name) (x : FrozenActivity) (before : List FrozenActivity) → activity_of x.name before ≡ None → activity_of n (before ++ x ∷ []) ≡ cond (same_name n x.name) (Some x) (activity_of n before)
behind_front n x [] none = elim (same_name n x.name) as (λ b. ◌≡◌ {A = Option FrozenActivity} (elim b [ true ↦ Some x | false ↦ None ]) (cond b (Some x) None)) [ true ↦ refl | false ↦ refl ]
behind_front n x (y ∷ before) none = by (same_name n y.name) refl (same_name x.name y.name) refl none (λ h. behind_front n x before h)
  where
    by : (b : Bool) → same_name n y.name ≡ b → (c : Bool) → same_name x.name y.name ≡ c
        → ◌≡◌ {A = Option FrozenActivity} (elim c [ true ↦ Some y | false ↦ activity_of x.name before ]) None
        → (activity_of x.name before ≡ None → activity_of n (before ++ x ∷ []) ≡ cond (same_name n x.name) (Some x) (activity_of n before))
        → ◌≡◌ {A = Option FrozenActivity} (elim b [ true ↦ Some y | false ↦ activity_of n (before ++ x ∷ []) ]) (cond (same_name n x.name) (Some x) (elim b [ true ↦ Some y | false ↦ activity_of n before ]))
    by b p true q h rest = no_some (sym h)
    by true p false q h rest =
        let apart : same_name n x.name ≡ false = ap (λ m. same_name m x.name) (names_tied n y.name p) ∙ name_turned y.name x.name ∙ q in
        sym (ap (λ c. cond c (Some x) (Some y)) apart)
    by false p false q h rest = rest h

looks_more : (look : Activities) (before : List FrozenActivity) (x : FrozenActivity) → Looks look before → activity_of x.name before ≡ None → Looks (with_activity look x) (before ++ x ∷ [])
looks_more look before x h none n = ap (cond (same_name n x.name) (Some x)) (h n) ∙ sym (behind_front n x before none)

-- Names that stand once

once_more : (before : List FrozenActivity) (x : FrozenActivity) → StandOnce before → activity_of x.name before ≡ None → StandOnce (before ++ x ∷ [])
once_more [] x h none = (refl, tt)
once_more (y ∷ before) x h none = by (same_name x.name y.name) refl none (λ e. once_more before x h.1 e)
  where
    by : (b : Bool) → same_name x.name y.name ≡ b → ◌≡◌ {A = Option FrozenActivity} (elim b [ true ↦ Some y | false ↦ activity_of x.name before ]) None
        → (activity_of x.name before ≡ None → StandOnce (before ++ x ∷ [])) → StandOnce (y ∷ (before ++ x ∷ []))
    by true p e rest = no_some (sym e)
    by false p e rest = (
      behind_front y.name x before e ∙ ap (λ c. cond c (Some x) (activity_of y.name before)) (name_turned y.name x.name ∙ p) ∙ h.0,
      rest e,
    )

found_behind : (n : Name) (before : List FrozenActivity) (x : FrozenActivity) (xs : List FrozenActivity) → activity_of n (before ++ x ∷ xs) ≡ None → same_name n x.name ≡ false
found_behind n [] x xs e = by (same_name n x.name) e
  where
    by : (b : Bool) → ◌≡◌ {A = Option FrozenActivity} (elim b [ true ↦ Some x | false ↦ activity_of n xs ]) None → b ≡ false
    by true h = no_some (sym h)
    by false h = refl
found_behind n (y ∷ before) x xs e = by (same_name n y.name) e (λ h. found_behind n before x xs h)
  where
    by : (b : Bool) → ◌≡◌ {A = Option FrozenActivity} (elim b [ true ↦ Some y | false ↦ activity_of n (before ++ x ∷ xs) ]) None
        → (activity_of n (before ++ x ∷ xs) ≡ None → same_name n x.name ≡ false) → same_name n x.name ≡ false
    by true h rest = no_some (sym h)
    by false h rest = rest h

new_there : (before : List FrozenActivity) (x : FrozenActivity) (xs : List FrozenActivity) → StandOnce (before ++ x ∷ xs) → activity_of x.name before ≡ None
new_there [] x xs h = refl
new_there (y ∷ before) x xs h =
    ap (λ (b : Bool). let o : Option FrozenActivity = elim b [ true ↦ Some y | false ↦ activity_of x.name before ] in o) (name_turned x.name y.name ∙ found_behind y.name before x xs h.0)
    ∙ new_there before x xs h.1

moved_on : (before : List FrozenActivity) (x : FrozenActivity) (xs : List FrozenActivity) → (before ++ x ∷ []) ++ xs ≡ before ++ (x ∷ xs)
moved_on before x xs = append_assoc before (x ∷ []) xs

pub looks_all : (before xs : List FrozenActivity) (look : Activities) → Looks look before → StandOnce (before ++ xs) → Looks (with_activities look xs) (before ++ xs)
looks_all before [] look h once = subst (Looks look) (sym (append-nil before)) h
looks_all before (x ∷ xs) look h once = subst (Looks (with_activities (with_activity look x) xs)) (moved_on before x xs)
    (looks_all (before ++ x ∷ []) xs (with_activity look x) (looks_more look before x h (new_there before x xs once)) (subst StandOnce (sym (moved_on before x xs)) once))

-- Creations

front_of : (k : ℕ) (n : Name) → k ∷ n ≡ (parted_behind k n).0 ++ (parted_behind k n).1 ∷ []
front_of k [] = refl
front_of k (i ∷ n) = ap (λ m. k ∷ m) (front_of i n)

-- a positive number follows another
before_it : (k : ℕ) → 1 ≤ k → (i : ℕ) × (k ≡ suc i)
before_it zero h = absurd (omega arith)
before_it (suc i) h = (i, refl)

same_created : (look : Activities) (before : List FrozenActivity) (n : Name) → Looks look before → Same (is_created look n) (IsCreatedAmong before n)
same_created look before [] h = record { to = λ e. none_true e; of = λ c. no_end c.0 (suc c.1) c.2 }
  where
    no_end : {A : Type 0} (m : Name) (k : ℕ) → [] ≡ created_name m k → A
    no_end [] k e = cc
    no_end (i ∷ m) k e = cc
same_created look before (k ∷ n) h = record {
  to = λ e.
      let r = parted_behind k n in
      let p = and_parts (nat_le 1 r.1) (nat_le r.1 (creations_at look r.0)) e in
      let s = before_it r.1 (leb-true 1 r.1 p.0) in
      let few : suc s.0 ≤ creations_in before r.0 = subst (λ c. suc s.0 ≤ c) (counts r.0) (subst (λ i. i ≤ creations_at look r.0) s.1 (leb-true r.1 (creations_at look r.0) p.1)) in
      (r.0, s.0, front_of k n ∙ ap (λ i. r.0 ++ i ∷ []) s.1, few);
  of = λ c.
      let by = c.0 in
      let i = suc c.1 in
      ap (is_created look) c.2 ∙ created_at look by i
      ∙ and_from (nat_le 1 i) (nat_le i (creations_at look by)) (le-leb 1 i (omega arith)) (le-leb i (creations_at look by) (subst (λ m. i ≤ m) (sym (counts by)) c.3));
}
  where
    counts : (m : Name) → creations_at look m ≡ creations_in before m
    counts m = ap (number_in (λ x. x.activity.creations)) (h m)

some_false : {A : Type 0} (o : Option A) → is_some o ≡ false → o ≡ None
some_false None e = refl
some_false (Some x) e = none_true (sym e)

names_to : (before xs : List FrozenActivity) (look : Activities) → Looks look before → StandOnce before → are_created look xs ≡ true → StandOnce (before ++ xs) × AreCreated before xs
names_to before [] look h once e = (subst StandOnce (sym (append-nil before)) once, tt)
names_to before (x ∷ xs) look h once e =
    let p = and_parts (is_created look x.name && not (is_named look x.name)) (are_created (with_activity look x) xs) e in
    let q = and_parts (is_created look x.name) (not (is_named look x.name)) p.0 in
    let none : activity_of x.name before ≡ None = sym (h x.name) ∙ some_false (look x.name) (not-true (is_named look x.name) q.1) in
    let rest = names_to (before ++ x ∷ []) xs (with_activity look x) (looks_more look before x h none) (once_more before x once none) p.1 in
    (subst StandOnce (moved_on before x xs) rest.0, ((same_created look before x.name h).to q.0, rest.1))

names_of : (before xs : List FrozenActivity) (look : Activities) → Looks look before → StandOnce (before ++ xs) → AreCreated before xs → are_created look xs ≡ true
names_of before [] look h once c = refl
names_of before (x ∷ xs) look h once c =
    let none = new_there before x xs once in
    and_from (is_created look x.name && not (is_named look x.name)) (are_created (with_activity look x) xs)
    (and_from (is_created look x.name) (not (is_named look x.name)) ((same_created look before x.name h).of c.0) (ap (λ o. not (is_some o)) (h x.name ∙ none)))
    (names_of (before ++ x ∷ []) xs (with_activity look x) (looks_more look before x h none) (subst StandOnce (sym (moved_on before x xs)) once) c.1)

one_looks : (x : FrozenActivity) → Looks (with_activity nobody x) (x ∷ [])
one_looks x n = elim (same_name n x.name) as (λ b. ◌≡◌ {A = Option FrozenActivity} (cond b (Some x) None) (elim b [ true ↦ Some x | false ↦ None ])) [ true ↦ refl | false ↦ refl ]

-- names that stand once, main first, each behind the one that has created it
pub same_begin : (xs : List FrozenActivity) → Same (begin_with_main xs) (StandOnce xs × BeginWithMain xs)
same_begin [] = record { to = λ e. none_true e; of = λ h. absurd h.1 }
same_begin (x ∷ xs) = record {
  to = λ e.
      let p = and_parts (same_name x.name main_name) (are_created (with_activity nobody x) xs) e in
      let r = names_to (x ∷ []) xs (with_activity nobody x) (one_looks x) (refl, tt) p.1 in
      (r.0, (names_tied x.name main_name p.0, r.1));
  of = λ h. and_from (same_name x.name main_name) (are_created (with_activity nobody x) xs)
      (ap (same_name x.name) (sym h.1.0) ∙ name_itself x.name)
      (names_of (x ∷ []) xs (with_activity nobody x) (one_looks x) h.0 h.1.1);
}

-- All that were created

abbrev pub AllThere : List FrozenActivity → Type 0
AllThere xs = (by : Name) (k : ℕ) → suc k ≤ creations_in xs by → IsNamed xs (created_name by (suc k))

abbrev pub first_in : List FrozenActivity → Activities
first_in xs n = activity_of n xs

pub same_all : (xs : List FrozenActivity) → StandOnce xs → Same (list_all (all_named (first_in xs)) xs) (AllThere xs)
same_all xs once = record {
  to = λ e by k le. found by k (activity_of by xs) refl le e;
  of = λ h. all_true xs (λ x i. (same_to _ x.activity.creations).of (λ k lt. h x.name k (subst (λ o. suc k ≤ number_in (λ y. y.activity.creations) o) (sym (there_activity xs x once i)) lt)));
}
  where
    all_true : (ys : List FrozenActivity) → ((x : FrozenActivity) → In x ys → all_named (first_in xs) x ≡ true) → list_all (all_named (first_in xs)) ys ≡ true
    all_true [] h = refl
    all_true (y ∷ ys) h = and_from _ _ (h y (inl refl)) (all_true ys (λ x i. h x (inr i)))

    one_true : (ys : List FrozenActivity) (x : FrozenActivity) → list_all (all_named (first_in xs)) ys ≡ true → In x ys → all_named (first_in xs) x ≡ true
    one_true [] x e i = absurd i
    one_true (y ∷ ys) x e i =
        let p = and_parts (all_named (first_in xs) y) (list_all (all_named (first_in xs)) ys) e in
        ⊎_elim (λ q. ap (all_named (first_in xs)) q ∙ p.0) (one_true ys x p.1) i

    found : (by : Name) (k : ℕ) (o : Option FrozenActivity) → activity_of by xs ≡ o → suc k ≤ number_in (λ y. y.activity.creations) o → list_all (all_named (first_in xs)) xs ≡ true → IsNamed xs (created_name by (suc k))
    found by k None p le e = absurd (omega (arith, le))
    found by k (Some x) p le e =
        let there = activity_there by xs x p in
        subst (λ n. IsNamed xs (created_name n (suc k))) there.1 ((same_to _ x.activity.creations).to (one_true xs x e there.0) k le)
