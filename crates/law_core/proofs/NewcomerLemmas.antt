-- Who is there after a step and was not before.
use Rattle.std.proofs.Common.{◌≡◌, ◌++◌, ◌∷◌, [], Bool, true, false, cond, List, Option, Some, None, is_none, map, refl, sym, ap, ◌∙◌, ⊎_elim}
use Rattle.std.specs.FinMap.{find, put}
use Rattle.std.specs.FinMap.Entries.{by_order}
use Rattle.std.specs.List.{filter}
use Rattle.std.specs.Ordering.{eq_by_cmp}
use Rattle.std.specs.declared.cmp.Ordering.{Ordering}
use Rattle.std.specs.declared.cmp.Ordering.TheVariants.{Less, Equal, Greater}
use Rattle.asp_model.specs.Names.{Name, name_cmp}
use Rattle.asp_model.specs.Configuration.{Activity, Configuration}
use Rattle.asp_model.specs.Intent.{Effect}
use Rattle.asp_model.specs.Step.{put_some, with_effect}
use Rattle.def_journals.specs.Journals.{newcomers}
use Rattle.law_steps.specs.Reached.{IsAt}
use Rattle.law_chases.proofs.MapLemmas.{find_other, find_same}
use Rattle.law_steps.proofs.NameLemmas.{name_case, name_itself, name_same, name_total}
use Rattle.law_chases.proofs.FutureLemmas.{no_some}
use Rattle.law_core.specs.Commits.{made_by, with_activity}

abbrev Entries : Type 0
Entries = List (Name × Activity)

abbrev names_in : Entries → List Name
names_in es = map (λ x. x.0) es

module _ (p : Name → Bool) where
  first_fails : (b : Bool) (n : Name) (xs : List Name) → cond b (n ∷ xs) xs ≡ [] → (b ≡ false) × (xs ≡ [])
  first_fails true n xs h = cc
  first_fails false n xs h = (refl, h)

  -- one more name passes the test, or not, where none of the others does
  passes_put : (k : Name) (a : Activity) (es : Entries) → filter p (names_in es) ≡ [] → filter p (names_in (put name_cmp k a es)) ≡ filter p (k ∷ [])
  passes_put k a [] none = refl
  passes_put k a (e ∷ es) none = by (name_cmp k e.0) refl (passes_put k a es (first_fails (p e.0) e.0 (filter p (names_in es)) none).1)
    where
      fails : (p e.0 ≡ false) × (filter p (names_in es) ≡ [])
      fails = first_fails (p e.0) e.0 (filter p (names_in es)) none

      by : (r : Ordering) → name_cmp k e.0 ≡ r → filter p (names_in (put name_cmp k a es)) ≡ filter p (k ∷ []) → filter p (names_in (by_order r ((k, a) ∷ e ∷ es) ((e.0, a) ∷ es) (e ∷ put name_cmp k a es))) ≡ filter p (k ∷ [])
      by Less q rest = ap (λ xs. cond (p k) (k ∷ xs) xs) none
      by Equal q rest = none ∙ ap (λ b. cond b (k ∷ []) []) (sym (ap p (name_same k e.0 q) ∙ fails.0))
      by Greater q rest = ap (λ b. cond b (e.0 ∷ filter p (names_in (put name_cmp k a es))) (filter p (names_in (put name_cmp k a es)))) fails.0 ∙ rest

-- a name is found in a list that goes on with it
found_behind : (before : Entries) (e : Name × Activity) (es : Entries) → is_none (find name_cmp e.0 (before ++ e ∷ es)) ≡ false
found_behind [] e es = ap (λ b. is_none (cond b (Some e.1) (find name_cmp e.0 es))) (name_itself e.0)
found_behind (x ∷ before) e es = elim (eq_by_cmp name_cmp e.0 x.0) as (λ b. is_none (cond b (Some x.1) (find name_cmp e.0 (before ++ e ∷ es))) ≡ false) [ true ↦ refl | false ↦ found_behind before e es ]

later : (before : Entries) (e : Name × Activity) (es : Entries) → (before ++ e ∷ []) ++ es ≡ before ++ e ∷ es
later [] e es = refl
later (x ∷ before) e es = ap (λ xs. x ∷ xs) (later before e es)

abbrev is_new : Entries → Name → Bool
is_new all m = is_none (find name_cmp m all)

-- nobody is new to those who are there
none_new : (all before es : Entries) → all ≡ before ++ es → filter (is_new all) (names_in es) ≡ []
none_new all before [] h = refl
none_new all before (e ∷ es) h =
    ap (λ b. cond b (e.0 ∷ filter (is_new all) (names_in es)) (filter (is_new all) (names_in es))) (ap (λ xs. is_new xs e.0) h ∙ found_behind before e es)
    ∙ none_new all (before ++ e ∷ []) es (h ∙ sym (later before e es))

abbrev not_there : Configuration → Name → Bool
not_there c m = is_none (find name_cmp m c.activities)

module _ (c : Configuration) (n : Name) (a : Activity) (is : IsAt c n a) where
  own_new : (b : Activity) → filter (not_there c) (names_in (put name_cmp n b c.activities)) ≡ []
  own_new b = passes_put (not_there c) n b c.activities (none_new c.activities [] c.activities refl) ∙ ap (λ o. cond (is_none o) (n ∷ []) []) is

  pub no_newcomer : (b : Activity) → newcomers c (with_activity n b c) ≡ []
  no_newcomer b = own_new b

  -- a step's newcomer is whom it makes
  pub made_is_new : (b : Activity) (e : Effect) → ((x : Name × Activity) → e.made ≡ Some x → find name_cmp x.0 c.activities ≡ None) → newcomers c (with_effect n e (with_activity n b c)) ≡ made_by e.made
  made_is_new b e new = by e.made new
    where
      twice : filter (not_there c) (names_in (put name_cmp n e.own (put name_cmp n b c.activities))) ≡ []
      twice = passes_put (not_there c) n e.own (put name_cmp n b c.activities) (own_new b) ∙ ap (λ o. cond (is_none o) (n ∷ []) []) is

      by : (o : Option (Name × Activity)) → ((x : Name × Activity) → o ≡ Some x → find name_cmp x.0 c.activities ≡ None) → filter (not_there c) (names_in (put_some name_cmp o (put name_cmp n e.own (put name_cmp n b c.activities)))) ≡ made_by o
      by None h = twice
      by (Some x) h = passes_put (not_there c) x.0 x.1 (put name_cmp n e.own (put name_cmp n b c.activities)) twice ∙ ap (λ o. cond (is_none o) (x.0 ∷ []) []) (h x refl)

-- who is not there beside another was not there before
pub absent_before : (c : Configuration) (n m : Name) (b : Activity) → find name_cmp m (with_activity n b c).activities ≡ None → find name_cmp m c.activities ≡ None
absent_before c n m b h = ⊎_elim
    (λ e. no_some (sym h ∙ ap (λ k. find name_cmp k (put name_cmp n b c.activities)) e ∙ find_same name_cmp name_total name_same n b c.activities))
    (λ apart. sym (find_other name_cmp name_total name_same m n b c.activities apart) ∙ h)
    (name_case m n)
