-- Names by their numbers, when one is entered.
use Rattle.std.proofs.Common.{◌≡◌, ◌≢◌, ◌+◌, ◌<◌, ◌^◌, ◌-◌, ◌++◌, ◌∷◌, [], ℕ, zero, suc, Bool, true, false, List, Option, Some, None, length, length-append, slice_get, refl, sym, ap, subst, ◌∙◌, ◌⊎◌, inl, inr, ⊎_elim, arith}
use Rattle.std.specs.Prelude.{◌||◌, if◌then◌else◌, position}
use Rattle.std.specs.List.{list_any}
use Rattle.std.proofs.lemmas.List.Quantifiers.{position-Some}
use Rattle.std.proofs.lemmas.Option.{slice_get-get_or, slice_get_within}
use Rattle.asp_model.specs.Names.{Name, same_name}
use Rattle.asp_model.specs.Order.{same_name_same}
use Rattle.def_journals.specs.Journals.{number_of}
use Rattle.law_steps.proofs.NameLemmas.{name_itself, names_tied}
use Rattle.law_chases.proofs.FutureLemmas.{no_some, some_is, true_false}
use Rattle.replay_parts.specs.Roster.{IsEntered, IsRoster, Leads}

abbrev one_later : Option ℕ → Option ℕ
one_later o = elim o [ None ↦ None | Some k ↦ Some (suc k) ]

abbrev here_or : Bool → Option ℕ → Option ℕ
here_or b o = elim b [ true ↦ Some 0 | false ↦ one_later o ]

-- Numbers

pub number_named : (ns : List Name) (n : Name) (k : ℕ) → number_of n ns ≡ Some k → slice_get ns k ≡ Some n
number_named [] n k h = no_some h
number_named (m ∷ ns) n k h = by (same_name n m) refl (number_of n ns) refl h (λ j. number_named ns n j)
  where
    by : (b : Bool) → same_name n m ≡ b → (o : Option ℕ) → number_of n ns ≡ o → here_or b o ≡ Some k → ((j : ℕ) → number_of n ns ≡ Some j → slice_get ns j ≡ Some n) → slice_get (m ∷ ns) k ≡ Some n
    by true e o is g rest = subst (λ j. slice_get (m ∷ ns) j ≡ Some n) (some_is g) (ap Some (sym (names_tied n m e)))
    by false e None is g rest = no_some g
    by false e (Some j) is g rest = subst (λ i. slice_get (m ∷ ns) i ≡ Some n) (some_is g) (rest j is)

pub number_within : (ns : List Name) (n : Name) (k : ℕ) → number_of n ns ≡ Some k → k < length ns
number_within ns n k h = slice_get_within ns k n (number_named ns n k h)

-- who has a number is the one of its name
pub one_name : (ns : List Name) (n m : Name) (k : ℕ) → number_of n ns ≡ Some k → number_of m ns ≡ Some k → n ≡ m
one_name ns n m k h g = some_is (sym (number_named ns n k h) ∙ number_named ns m k g)

-- others have other numbers
pub other_number : (ns : List Name) (n m : Name) (j k : ℕ) → m ≢ n → number_of m ns ≡ Some j → number_of n ns ≡ Some k → j ≢ k
other_number ns n m j k d h g e = d (one_name ns m n k (h ∙ ap Some e) g)

-- One more name

pub number_front : (ns ms : List Name) (m : Name) (k : ℕ) → number_of m ns ≡ Some k → number_of m (ns ++ ms) ≡ Some k
number_front [] ms m k h = no_some h
number_front (n ∷ ns) ms m k h = by (same_name m n) refl (number_of m ns) refl h (λ j. number_front ns ms m j)
  where
    by : (b : Bool) → same_name m n ≡ b → (o : Option ℕ) → number_of m ns ≡ o → here_or b o ≡ Some k → ((j : ℕ) → number_of m ns ≡ Some j → number_of m (ns ++ ms) ≡ Some j) → here_or (same_name m n) (number_of m (ns ++ ms)) ≡ Some k
    by true e o is g rest = ap (λ b. here_or b (number_of m (ns ++ ms))) e ∙ g
    by false e None is g rest = no_some g
    by false e (Some j) is g rest = ap (λ b. here_or b (number_of m (ns ++ ms))) e ∙ ap one_later (rest j is) ∙ g

not_same : (m n : Name) → m ≢ n → same_name m n ≡ false
not_same m n d = elim (same_name m n) as (λ b. same_name m n ≡ b → b ≡ false) [ true ↦ λ e. absurd (d (names_tied m n e)) | false ↦ λ e. refl ] refl

pub number_other : (ns : List Name) (n m : Name) → m ≢ n → number_of m (ns ++ n ∷ []) ≡ number_of m ns
number_other [] n m d = ap (λ b. here_or b None) (not_same m n d)
number_other (x ∷ ns) n m d = ap (here_or (same_name m x)) (number_other ns n m d)

pub number_last : (ns : List Name) (n : Name) → number_of n ns ≡ None → number_of n (ns ++ n ∷ []) ≡ Some (length ns)
number_last [] n h = ap (λ b. here_or b None) (name_itself n)
number_last (m ∷ ns) n h = by (same_name n m) refl (number_of n ns) refl h (number_last ns n)
  where
    by : (b : Bool) → same_name n m ≡ b → (o : Option ℕ) → number_of n ns ≡ o → here_or b o ≡ None → (number_of n ns ≡ None → number_of n (ns ++ n ∷ []) ≡ Some (length ns)) → here_or (same_name n m) (number_of n (ns ++ n ∷ [])) ≡ Some (suc (length ns))
    by true e o is g rest = absurd cc
    by false e (Some j) is g rest = absurd cc
    by false e None is g rest = ap (λ b. here_or b (number_of n (ns ++ n ∷ []))) e ∙ ap one_later (rest is)

pub get_front : (ns ms : List Name) (k : ℕ) (m : Name) → slice_get ns k ≡ Some m → slice_get (ns ++ ms) k ≡ Some m
get_front [] ms k m h = no_some h
get_front (n ∷ ns) ms zero m h = h
get_front (n ∷ ns) ms (suc k) m h = get_front ns ms k m h

got_of : (ns : List Name) (n m : Name) (k : ℕ) → slice_get (ns ++ n ∷ []) k ≡ Some m → (slice_get ns k ≡ Some m) ⊎ ((k ≡ length ns) × (n ≡ m))
got_of [] n m zero h = inr (refl, some_is h)
got_of [] n m (suc k) h = no_some h
got_of (x ∷ ns) n m zero h = inl h
got_of (x ∷ ns) n m (suc k) h = ⊎_elim (λ g. inl g) (λ g. inr (ap suc g.0, g.1)) (got_of ns n m k h)

pub roster_more : (ns : List Name) (n : Name) → IsRoster ns → number_of n ns ≡ None → length ns < 2 ^ 32 - 1 → IsRoster (ns ++ n ∷ [])
roster_more ns n r none few = record {
  numbers = λ k m h. ⊎_elim
      (λ g. number_front ns (n ∷ []) m k (r.numbers k m g))
      (λ g. ap (λ (q : Name). number_of q (ns ++ n ∷ [])) (sym g.1) ∙ number_last ns n none ∙ ap Some (sym g.0))
      (got_of ns n m k h);
  few = let one : length (ns ++ n ∷ []) ≡ length ns + 1 = length-append ns (n ∷ []) in omega (arith, few, one);
}

-- The set of names

-- a name that the set lacks has no number
pub absent_none : (ns : List Name) (n : Name) → list_any (same_name n) ns ≡ false → number_of n ns ≡ None
absent_none [] n h = refl
absent_none (m ∷ ns) n h = by (same_name n m) refl (list_any (same_name n) ns) refl h (absent_none ns n)
  where
    by : (a : Bool) → same_name n m ≡ a → (b : Bool) → list_any (same_name n) ns ≡ b → (a || b) ≡ false → (list_any (same_name n) ns ≡ false → number_of n ns ≡ None) → here_or (same_name n m) (number_of n ns) ≡ None
    by true e b g h rest = absurd cc
    by false e true g h rest = absurd cc
    by false e false g h rest = ap (λ c. here_or c (number_of n ns)) e ∙ ap one_later (rest g)

pub found_number : (ns : List Name) (n : Name) (k : ℕ) → IsRoster ns → position (same_name n) ns ≡ Some k → number_of n ns ≡ Some k
found_number ns n k r e =
    let h = position-Some (same_name n) ns k [] e in
    r.numbers k n (slice_get-get_or ns k [] h.0 ∙ ap Some (sym (same_name_same n _ h.1)))

-- a name is entered: where it was there, all stays, and else it is the last
abbrev Inserted : List Name → List Name → Name → Type 0
Inserted old new n = new ≡ (if list_any (same_name n) old then old else old ++ n ∷ [])

sound_by : (b : Bool) (old new : List Name) (n : Name) → list_any (same_name n) old ≡ b → new ≡ (if b then old else old ++ n ∷ []) → IsRoster old → length old < 2 ^ 32 - 1 → IsRoster new
sound_by true old new n has e r few = subst IsRoster (sym e) r
sound_by false old new n has e r few = subst IsRoster (sym e) (roster_more old n r (absent_none old n has) few)

pub entered_sound : (old new : List Name) (n : Name) → Inserted old new n → IsRoster old → length old < 2 ^ 32 - 1 → IsRoster new
entered_sound old new n e r few = sound_by (list_any (same_name n) old) old new n refl e r few

entered_by : (b : Bool) (old new : List Name) (n : Name) (k : ℕ) → list_any (same_name n) old ≡ b → new ≡ (if b then old else old ++ n ∷ []) → number_of n new ≡ Some k → (number_of n old ≡ None → b ≡ false) → IsEntered n k old new
entered_by true old new n k has e number not = record {
  number = number;
  others = λ m d. ap (number_of m) e;
  before = λ m j h. ap (number_of m) e ∙ h;
  leads = λ j m h. ap (λ ns. slice_get ns j) e ∙ h;
  last = λ none. absurd (true_false true refl (not none));
}
entered_by false old new n k has e number not = record {
  number = number;
  others = λ m d. ap (number_of m) e ∙ number_other old n m d;
  before = λ m j h. ap (number_of m) e ∙ number_front old (n ∷ []) m j h;
  leads = λ j m h. ap (λ ns. slice_get ns j) e ∙ get_front old (n ∷ []) j m h;
  last = λ none. e;
}

-- a name that has no number is not in the set
none_absent : (ns : List Name) (n : Name) → number_of n ns ≡ None → list_any (same_name n) ns ≡ false
none_absent [] n h = refl
none_absent (m ∷ ns) n h = by (same_name n m) refl (number_of n ns) refl h (none_absent ns n)
  where
    by : (a : Bool) → same_name n m ≡ a → (o : Option ℕ) → number_of n ns ≡ o → here_or a o ≡ None → (number_of n ns ≡ None → list_any (same_name n) ns ≡ false) → (same_name n m || list_any (same_name n) ns) ≡ false
    by true e o is g rest = absurd cc
    by false e (Some j) is g rest = absurd cc
    by false e None is g rest = ap (λ b. b || list_any (same_name n) ns) e ∙ rest is

pub entered_so : (old new : List Name) (n : Name) (k : ℕ) → Inserted old new n → IsRoster new → (q : Name) → slice_get new k ≡ Some q → same_name n q ≡ true → IsEntered n k old new
entered_so old new n k e r q at same =
    entered_by (list_any (same_name n) old) old new n k refl e (r.numbers k n (at ∙ ap Some (sym (names_tied n q same)))) (none_absent old n)

-- The names of entries

pub leads_both : (ms ns os : List Name) → Leads ms ns → Leads ns os → Leads ms os
leads_both ms ns os h g = λ k n e. g k n (h k n e)
