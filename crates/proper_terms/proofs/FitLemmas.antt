-- A term that fits is proper, and a proper term fits.
use Rattle.std.specs.Prelude.{◌≡◌, ℕ, zero, suc, ◌+◌, ◌<◌, ◌≤◌, nat_eq, nat_le, nat_lt, ◌&&◌, ◌||◌, not, Bool, true, false, List, [], ◌∷◌, ◌++◌, Option, Some, None, is_some, length, map}
use Rattle.std.specs.List.{list_all}
use Rattle.std.proofs.Common.{refl, sym, ap, subst, ◌∙◌}
use Rattle.std.proofs.lemmas.Bool.{eqb-true, eq-eqb, leb-true, le-leb, ltb-true, lt-ltb}
use Rattle.asp_model.specs.Names.{Text, same_text}
use Rattle.asp_model.specs.Term.{MethodHead, Head, Loc, Hole, Var, Number, Make, Get, Put, Call, Clone, Active, Serve, Let, Steps, If, Repeat, Operate, Print, Echo, Group, Scatter, Size, Member, WaitAll, Pending, Tree, Trees, node, none, more, loc, leaf, locs_then, binders, child_count, has_text, own_locations, locations, locations_below}
use Rattle.asp_model.specs.Readable.{HasArity}
use Rattle.asp_model.specs.Store.{MethodShape}
use Rattle.asp_check.specs.NameFaults.{NameSet, no_names, with_name, with_names}
use Rattle.law_chases.proofs.FutureLemmas.{none_true, no_some, some_is}
use Rattle.law_steps.specs.Closed.{AreBelow}
use Rattle.law_steps.proofs.EachLemmas.{each_both, each_first, each_second}
use Rattle.law_programs.specs.Proper.{are_distinct, are_single, names_bound, is_proper_node, IsProper, AreProper, IsProperMethod}
use Rattle.law_programs.proofs.ScopeLemmas.{equal_texts, text_both}
use Rattle.std.proofs.lemmas.Slice.Eq.{bytes_eq-Decides}
use Rattle.proper_terms.specs.Fits.{are_new, head_is_single, is_single, has_arity, where_true, one_less, left_at, then_left, left_in, left_below, fits, method_fits}
use Rattle.proper_terms.specs.Laws.{FittingIsProper, FittingMethodIsProper, SingleIsSingle}

-- Names that stand once

swapped : (s t h b : Bool) → (not (s || t) && (not h && b)) ≡ (not (s || h) && (not t && b))
swapped true t h b = refl
swapped false true true b = refl
swapped false true false b = refl
swapped false false true b = refl
swapped false false false b = refl

none_more : (x : Text) (set : NameSet) (xs : List Text) → list_all (λ y. not (with_name x set y)) xs ≡ (not (has_text x xs) && list_all (λ y. not (set y)) xs)
none_more x set [] = refl
none_more x set (y ∷ xs) = ap (λ b. not (same_text x y || set y) && b) (none_more x set xs)
    ∙ swapped (same_text x y) (set y) (has_text x xs) (list_all (λ y. not (set y)) xs)

turned : (s d h b : Bool) → (not s && (d && (not h && b))) ≡ ((not h && d) && (not s && b))
turned true true true b = refl
turned true true false b = refl
turned true false true b = refl
turned true false false b = refl
turned false true true b = refl
turned false true false b = refl
turned false false true b = refl
turned false false false b = refl

new_is : (xs : List Text) (set : NameSet) → are_new set xs ≡ (are_distinct xs && list_all (λ y. not (set y)) xs)
new_is [] set = refl
new_is (x ∷ xs) set = ap (λ b. not (set x) && b) (new_is xs (with_name x set))
    ∙ ap (λ b. not (set x) && (are_distinct xs && b)) (none_more x set xs)
    ∙ turned (set x) (are_distinct xs) (has_text x xs) (list_all (λ y. not (set y)) xs)

and_true : (b : Bool) → (b && true) ≡ b
and_true true = refl
and_true false = refl

all_others : (xs : List Text) → list_all (λ y. not (no_names y)) xs ≡ true
all_others [] = refl
all_others (x ∷ xs) = all_others xs

distinct_is : (xs : List Text) → are_new no_names xs ≡ are_distinct xs
distinct_is xs = new_is xs no_names ∙ ap (λ b. are_distinct xs && b) (all_others xs) ∙ and_true (are_distinct xs)

heads_are_single : (ms : List MethodHead) → list_all head_is_single ms ≡ list_all (λ m. are_distinct (names_bound m)) ms
heads_are_single [] = refl
heads_are_single (m ∷ ms) = λ i. distinct_is (names_bound m) i && heads_are_single ms i

pub single_is_single : SingleIsSingle
single_is_single fields methods = λ i. distinct_is (fields ++ map (λ (m : MethodHead). m.label) methods) i && heads_are_single methods i

-- Arities

pub to_arity : (h : Head) (k : ℕ) → has_arity h k ≡ true → HasArity h k
to_arity (Make fields methods) k e = eqb-true _ _ e
to_arity (Get l) k e = eqb-true _ _ e
to_arity (Put l) k e = eqb-true _ _ e
to_arity (Call l) k e = leb-true _ _ e
to_arity Clone k e = eqb-true _ _ e
to_arity (Active s) k e = eqb-true _ _ e
to_arity (Let x) k e = eqb-true _ _ e
to_arity Steps k e = leb-true _ _ e
to_arity If k e = eqb-true _ _ e
to_arity Repeat k e = eqb-true _ _ e
to_arity (Operate s) k e = eqb-true _ _ e
to_arity Print k e = eqb-true _ _ e
to_arity Group k e = tt
to_arity (Scatter l) k e = eqb-true _ _ e
to_arity Size k e = eqb-true _ _ e
to_arity Member k e = eqb-true _ _ e
to_arity WaitAll k e = eqb-true _ _ e
to_arity h k e = eqb-true _ _ e

pub of_arity : (h : Head) (k : ℕ) → HasArity h k → has_arity h k ≡ true
of_arity (Make fields methods) k e = eq-eqb _ _ e
of_arity (Get l) k e = eq-eqb _ _ e
of_arity (Put l) k e = eq-eqb _ _ e
of_arity (Call l) k e = le-leb _ _ e
of_arity Clone k e = eq-eqb _ _ e
of_arity (Active s) k e = eq-eqb _ _ e
of_arity (Let x) k e = eq-eqb _ _ e
of_arity Steps k e = le-leb _ _ e
of_arity If k e = eq-eqb _ _ e
of_arity Repeat k e = eq-eqb _ _ e
of_arity (Operate s) k e = eq-eqb _ _ e
of_arity Print k e = eq-eqb _ _ e
of_arity Group k e = refl
of_arity (Scatter l) k e = eq-eqb _ _ e
of_arity Size k e = eq-eqb _ _ e
of_arity Member k e = eq-eqb _ _ e
of_arity WaitAll k e = eq-eqb _ _ e
of_arity h k e = eq-eqb _ _ e

-- Names that are bound

-- the set has these names
abbrev pub Has : NameSet → List Text → Type 0
Has set bound = (y : Text) → set y ≡ has_text y bound

pub has_none : Has no_names []
has_none y = refl

same_itself : (x : Text) → same_text x x ≡ true
same_itself x = (bytes_eq-Decides x x).1 refl

equal_bools : (b c : Bool) → (b ≡ true → c ≡ true) → (c ≡ true → b ≡ true) → b ≡ c
equal_bools true true h g = refl
equal_bools true false h g = sym (h refl)
equal_bools false true h g = g refl
equal_bools false false h g = refl

same_turned : (x y : Text) → same_text x y ≡ same_text y x
same_turned x y = equal_bools (same_text x y) (same_text y x)
    (λ e. subst (λ z. same_text z x ≡ true) (equal_texts x y e) (same_itself x))
    (λ e. subst (λ z. same_text z y ≡ true) (equal_texts y x e) (same_itself y))

or_turned : (a h s : Bool) → (h || (a || s)) ≡ ((a || h) || s)
or_turned true true s = refl
or_turned true false s = refl
or_turned false true s = refl
or_turned false false s = refl

with_is : (zs : List Text) (set : NameSet) (y : Text) → with_names zs set y ≡ (has_text y zs || set y)
with_is [] set y = refl
with_is (x ∷ zs) set y = with_is zs (with_name x set) y
    ∙ ap (λ b. has_text y zs || (b || set y)) (same_turned x y)
    ∙ or_turned (same_text y x) (has_text y zs) (set y)

pub has_more : (zs : List Text) (set : NameSet) (bound : List Text) → Has set bound → Has (with_names zs set) (zs ++ bound)
has_more zs set bound h y = with_is zs set y ∙ ap (λ b. has_text y zs || b) (h y) ∙ sym (text_both y zs bound)

-- What is left

pub record Goes (o : Option ℕ) (f : ℕ → Option ℕ) (m : ℕ) : Type 0 where
  pub by : ℕ
  pub first : o ≡ Some by
  pub behind : f by ≡ Some m

pub goes : (o : Option ℕ) (f : ℕ → Option ℕ) (m : ℕ) → then_left o f ≡ Some m → Goes o f m
goes None f m e = no_some e
goes (Some n) f m e = record { by = n; first = refl; behind = e }

pub going : (o : Option ℕ) (f : ℕ → Option ℕ) (n m : ℕ) → o ≡ Some n → f n ≡ Some m → then_left o f ≡ Some m
going o f n m e h = ap (λ p. then_left p f) e ∙ h

pub where_is : (b : Bool) (n m : ℕ) → where_true b n ≡ Some m → (b ≡ true) × (m ≡ n)
where_is true n m e = (refl, sym (some_is e))
where_is false n m e = no_some e

pub is_where : (b : Bool) (n : ℕ) → b ≡ true → where_true b n ≡ Some n
is_where b n e = ap (λ c. where_true c n) e

module _ (k : ℕ) where
  -- a node itself, where no hole may stand
  at_node : (set : NameSet) (bound : List Text) → Has set bound → (h : Head) (m : ℕ) → left_at k set h 0 ≡ Some m → (m ≡ 0) × ((is_proper_node bound h ≡ true) × AreBelow k (own_locations h))
  at_node set bound has (Loc n) m e = let w = where_is (nat_lt n k) 0 m e in (w.1, (refl, (ltb-true n k w.0, tt)))
  at_node set bound has Hole m e = no_some e
  at_node set bound has (Var x) m e = let w = where_is (set x) 0 m e in (w.1, (sym (has x) ∙ w.0, tt))
  at_node set bound has (Make fields methods) m e = let w = where_is (is_single fields methods) 0 m e in (w.1, (sym (single_is_single fields methods) ∙ w.0, tt))
  at_node set bound has h m e = (sym (some_is e), (refl, tt))

  pub of_node : (set : NameSet) (bound : List Text) → Has set bound → (h : Head) (n : ℕ) → is_proper_node bound h ≡ true → AreBelow k (own_locations h) → left_at k set h n ≡ Some n
  of_node set bound has (Loc p) n e b = is_where (nat_lt p k) n (lt-ltb p k b.0)
  of_node set bound has Hole n e b = none_true e
  of_node set bound has (Var x) n e b = is_where (set x) n (has x ∙ e)
  of_node set bound has (Make fields methods) n e b = is_where (is_single fields methods) n (single_is_single fields methods ∙ e)
  of_node set bound has h n e b = refl

  mutual
    pub to_proper : (set : NameSet) (bound : List Text) → Has set bound → (t : Tree) (m : ℕ) → left_in k set t 0 ≡ Some m → (m ≡ 0) × (IsProper bound t × AreBelow k (locations t))
    to_proper set bound has (node h ts) m e =
        let a = goes (where_true (has_arity h (child_count ts)) 0) (λ n. then_left (left_at k set h n) (left_below k set (binders h) ts)) m e in
        let w = where_is (has_arity h (child_count ts)) 0 a.by a.first in
        let b = goes (left_at k set h a.by) (left_below k set (binders h) ts) m a.behind in
        let here = at_node set bound has h b.by (subst (λ n. left_at k set h n ≡ Some b.by) w.1 b.first) in
        let below = to_propers set bound has (binders h) ts m (subst (λ n. left_below k set (binders h) ts n ≡ Some m) here.0 b.behind) in
        (below.0, ((here.1.0, to_arity h (child_count ts) w.0, below.1.0), each_both (λ i. i < k) (own_locations h) (locations_below ts) here.1.1 below.1.1))

    pub to_propers : (set : NameSet) (bound : List Text) → Has set bound → (names : List (List Text)) (ts : Trees) (m : ℕ) → left_below k set names ts 0 ≡ Some m → (m ≡ 0) × (AreProper bound names ts × AreBelow k (locations_below ts))
    to_propers set bound has names none m e = (sym (some_is e), (tt, tt))
    to_propers set bound has [] (more t ts) m e =
        let a = goes (left_in k set t 0) (left_below k set [] ts) m e in
        let here = to_proper set bound has t a.by a.first in
        let rest = to_propers set bound has [] ts m (subst (λ n. left_below k set [] ts n ≡ Some m) here.0 a.behind) in
        (rest.0, ((here.1.0, rest.1.0), each_both (λ i. i < k) (locations t) (locations_below ts) here.1.1 rest.1.1))
    to_propers set bound has (xs ∷ names) (more t ts) m e =
        let a = goes (left_in k (with_names xs set) t 0) (left_below k set names ts) m e in
        let here = to_proper (with_names xs set) (xs ++ bound) (has_more xs set bound has) t a.by a.first in
        let rest = to_propers set bound has names ts m (subst (λ n. left_below k set names ts n ≡ Some m) here.0 a.behind) in
        (rest.0, ((here.1.0, rest.1.0), each_both (λ i. i < k) (locations t) (locations_below ts) here.1.1 rest.1.1))

  mutual
    pub of_proper : (set : NameSet) (bound : List Text) → Has set bound → (t : Tree) (n : ℕ) → IsProper bound t → AreBelow k (locations t) → left_in k set t n ≡ Some n
    of_proper set bound has (node h ts) n p b =
        going (where_true (has_arity h (child_count ts)) n) (λ i. then_left (left_at k set h i) (left_below k set (binders h) ts)) n n
        (is_where (has_arity h (child_count ts)) n (of_arity h (child_count ts) p.1))
        (going (left_at k set h n) (left_below k set (binders h) ts) n n
        (of_node set bound has h n p.0 (each_first (λ i. i < k) (own_locations h) (locations_below ts) b))
        (of_propers set bound has (binders h) ts n p.2 (each_second (λ i. i < k) (own_locations h) (locations_below ts) b)))

    pub of_propers : (set : NameSet) (bound : List Text) → Has set bound → (names : List (List Text)) (ts : Trees) (n : ℕ) → AreProper bound names ts → AreBelow k (locations_below ts) → left_below k set names ts n ≡ Some n
    of_propers set bound has names none n p b = refl
    of_propers set bound has [] (more t ts) n p b =
        going (left_in k set t n) (left_below k set [] ts) n n
        (of_proper set bound has t n p.0 (each_first (λ i. i < k) (locations t) (locations_below ts) b))
        (of_propers set bound has [] ts n p.1 (each_second (λ i. i < k) (locations t) (locations_below ts) b))
    of_propers set bound has (xs ∷ names) (more t ts) n p b =
        going (left_in k (with_names xs set) t n) (left_below k set names ts) n n
        (of_proper (with_names xs set) (xs ++ bound) (has_more xs set bound has) t n p.0 (each_first (λ i. i < k) (locations t) (locations_below ts) b))
        (of_propers set bound has names ts n p.1 (each_second (λ i. i < k) (locations t) (locations_below ts) b))

-- Fitting

pub some_of : (o : Option ℕ) → is_some o ≡ true → (m : ℕ) × (o ≡ Some m)
some_of None e = none_true e
some_of (Some m) e = (m, refl)

pub fitting_is_proper : FittingIsProper
fitting_is_proper k t = (
  λ e. let s = some_of (left_in k no_names t 0) e in (to_proper k no_names [] has_none t s.0 s.1).1,
  λ h. ap is_some (of_proper k no_names [] has_none t 0 h.0 h.1),
)

pub fitting_method_is_proper : FittingMethodIsProper
fitting_method_is_proper k m =
    let names = names_bound m.head in
    let set = with_names names no_names in
    let has : Has set names = λ y. has_more names no_names [] has_none y ∙ ap (has_text y) (append_none names) in (
      λ e. let s = some_of (left_in k set m.body 0) e in (to_proper k set names has m.body s.0 s.1).1,
      λ h. ap is_some (of_proper k set names has m.body 0 h.0 h.1),
    )
  where
    append_none : (xs : List Text) → xs ++ [] ≡ xs
    append_none [] = refl
    append_none (x ∷ xs) = ap (λ ys. x ∷ ys) (append_none xs)
