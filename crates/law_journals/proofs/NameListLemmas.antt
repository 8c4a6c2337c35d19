-- Names by their numbers in a list.
use Rattle.std.proofs.Common.{◌≡◌, ◌++◌, ◌∷◌, [], ℕ, zero, suc, Bool, true, false, cond, T, List, Option, Some, None, map, refl, sym, ap, subst, ◌∙◌, ◌⊎◌, inl, inr, ⊎_elim}
use Rattle.std.specs.FinMap.{is_sorted}
use Rattle.std.specs.List.{filter}
use Rattle.asp_model.specs.Names.{Name, name_cmp, same_name}
use Rattle.asp_model.specs.Step.{name_at}
use Rattle.def_journals.specs.Journals.{number_of}
use Rattle.law_steps.proofs.EntryLemmas.{In, below_apart, first_of_both, second_of_both}
use Rattle.law_steps.proofs.NameLemmas.{name_itself, names_tied}
use Rattle.law_chases.proofs.FutureLemmas.{no_some, some_is}

-- who has a number stands in the list
pub numbered_in : (ns : List Name) (k : ℕ) (n : Name) → name_at ns k ≡ Some n → In n ns
numbered_in [] k n h = no_some h
numbered_in (m ∷ ns) zero n h = inl (sym (some_is h))
numbered_in (m ∷ ns) (suc k) n h = inr (numbered_in ns k n h)

-- and who stands in the list has a number
pub in_numbered : (ns : List Name) (n : Name) → In n ns → (k : ℕ) × (name_at ns k ≡ Some n)
in_numbered [] n h = absurd h
in_numbered (m ∷ ns) n (inl e) = (0, ap Some (sym e))
in_numbered (m ∷ ns) n (inr h) = let k = in_numbered ns n h in (suc k.0, k.1)

-- no name stands twice
abbrev pub AreApart : List Name → Type 0
AreApart [] = Unit {0}
AreApart (n ∷ ns) = (In n ns → ⊥) × AreApart ns

pub one_number : (ns : List Name) → AreApart ns → (i k : ℕ) (n : Name) → name_at ns i ≡ Some n → name_at ns k ≡ Some n → i ≡ k
one_number [] a i k n h g = no_some h
one_number (m ∷ ns) a zero zero n h g = refl
one_number (m ∷ ns) a zero (suc k) n h g = absurd (a.0 (subst (λ q. In q ns) (sym (some_is h)) (numbered_in ns k n g)))
one_number (m ∷ ns) a (suc i) zero n h g = absurd (a.0 (subst (λ q. In q ns) (sym (some_is g)) (numbered_in ns i n h)))
one_number (m ∷ ns) a (suc i) (suc k) n h g = ap suc (one_number ns a.1 i k n h g)

-- Two lists

pub in_both : (ns ms : List Name) (n : Name) → In n (ns ++ ms) → In n ns ⊎ In n ms
in_both [] ms n h = inr h
in_both (m ∷ ns) ms n (inl e) = inl (inl e)
in_both (m ∷ ns) ms n (inr h) = ⊎_elim (λ i. inl (inr i)) (λ i. inr i) (in_both ns ms n h)

pub in_front : (ns ms : List Name) (n : Name) → In n ns → In n (ns ++ ms)
in_front [] ms n h = absurd h
in_front (m ∷ ns) ms n (inl e) = inl e
in_front (m ∷ ns) ms n (inr h) = inr (in_front ns ms n h)

pub in_back : (ns ms : List Name) (n : Name) → In n ms → In n (ns ++ ms)
in_back [] ms n h = h
in_back (m ∷ ns) ms n h = inr (in_back ns ms n h)

pub apart_both : (ns ms : List Name) → AreApart ns → AreApart ms → ((n : Name) → In n ns → In n ms → ⊥) → AreApart (ns ++ ms)
apart_both [] ms a b none = b
apart_both (n ∷ ns) ms a b none = (
  λ i. ⊎_elim (λ j. a.0 j) (λ j. none n (inl refl) j) (in_both ns ms n i),
  apart_both ns ms a.1 b (λ m i j. none m (inr i) j),
)

-- a number in front stays
pub number_stays : (ns ms : List Name) (k : ℕ) (n : Name) → name_at ns k ≡ Some n → name_at (ns ++ ms) k ≡ Some n
number_stays [] ms k n h = no_some h
number_stays (m ∷ ns) ms zero n h = h
number_stays (m ∷ ns) ms (suc k) n h = number_stays ns ms k n h

-- Those that pass a test

module _ (p : Name → Bool) where
  in_first : (b : Bool) (m n : Name) (ns : List Name) → In n (cond b (m ∷ ns) ns) → ((n ≡ m) × (b ≡ true)) ⊎ In n ns
  in_first true m n ns (inl e) = inl (e, refl)
  in_first true m n ns (inr h) = inr h
  in_first false m n ns h = inr h

  pub passed_in : (ns : List Name) (n : Name) → In n (filter p ns) → In n ns × (p n ≡ true)
  passed_in [] n h = absurd h
  passed_in (m ∷ ns) n h = ⊎_elim
      (λ x. (inl x.0, ap p x.0 ∙ x.1))
      (λ i. let r = passed_in ns n i in (inr r.0, r.1))
      (in_first (p m) m n (filter p ns) h)

  pub in_passed : (ns : List Name) (n : Name) → In n ns → p n ≡ true → In n (filter p ns)
  in_passed [] n h t = absurd h
  in_passed (m ∷ ns) n (inl e) t = subst (λ b. In n (cond b (m ∷ filter p ns) (filter p ns))) (sym (ap p (sym e) ∙ t)) (inl e)
  in_passed (m ∷ ns) n (inr h) t = elim (p m) as (λ b. In n (cond b (m ∷ filter p ns) (filter p ns))) [ true ↦ inr (in_passed ns n h t) | false ↦ in_passed ns n h t ]

  pub apart_passed : (ns : List Name) → AreApart ns → AreApart (filter p ns)
  apart_passed [] a = tt
  apart_passed (m ∷ ns) a = elim (p m) as (λ b. AreApart (cond b (m ∷ filter p ns) (filter p ns))) [
    | true ↦ (λ i. a.0 (passed_in ns m i).0, apart_passed ns a.1)
    | false ↦ apart_passed ns a.1
  ]

-- The names of entries

module _ {X : Type 0} where
  pub name_in : (es : List (Name × X)) (e : Name × X) → In e es → In e.0 (map (λ x. x.0) es)
  name_in [] e h = absurd h
  name_in (x ∷ es) e (inl q) = inl (ap (λ z. z.0) q)
  name_in (x ∷ es) e (inr h) = inr (name_in es e h)

  pub entry_of : (es : List (Name × X)) (n : Name) → In n (map (λ x. x.0) es) → (e : Name × X) × In e es × (e.0 ≡ n)
  entry_of [] n h = absurd h
  entry_of (x ∷ es) n (inl q) = (x, inl refl, sym q)
  entry_of (x ∷ es) n (inr h) = let r = entry_of es n h in (r.0, inr r.1, r.2)

  pub names_apart_in : (es : List (Name × X)) → T (is_sorted name_cmp es) → AreApart (map (λ x. x.0) es)
  names_apart_in [] h = tt
  names_apart_in (x ∷ es) h = (
    λ i. let e = entry_of es x.0 i in below_apart x.0 es e.0 (first_of_both _ _ h) e.1 e.2,
    names_apart_in es (second_of_both _ _ h),
  )

-- The number of a name

abbrev one_later : Option ℕ → Option ℕ
one_later o = elim o [ None ↦ None | Some k ↦ Some (suc k) ]

pub numbered_so : (ns : List Name) → AreApart ns → (k : ℕ) (n : Name) → name_at ns k ≡ Some n → number_of n ns ≡ Some k
numbered_so [] a k n h = no_some h
numbered_so (m ∷ ns) a zero n h = ap (λ b. elim b [ true ↦ Some 0 | false ↦ one_later (number_of n ns) ]) (ap (same_name n) (some_is h) ∙ name_itself n)
numbered_so (m ∷ ns) a (suc k) n h = by (same_name n m) refl (numbered_so ns a.1 k n h)
  where
    by : (b : Bool) → same_name n m ≡ b → number_of n ns ≡ Some k → elim b [ true ↦ Some 0 | false ↦ one_later (number_of n ns) ] ≡ Some (suc k)
    by true e rest = absurd (a.0 (subst (λ q. In q ns) (names_tied n m e) (numbered_in ns k n h)))
    by false e rest = ap one_later rest
