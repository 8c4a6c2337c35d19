-- To put in two environments one after the other is to put in both.
use Rattle.std.proofs.lemmas.Slice.Eq.{bytes_eq-Decides}
use Rattle.std.proofs.Common.{◌≡◌, ℕ, ◌||◌, Bool, true, false, cond, List, [], ◌∷◌, ◌++◌, Option, Some, None, refl, sym, ap, subst, ◌∙◌, T}
use Rattle.asp_model.specs.Names.{Text, same_text}
use Rattle.asp_model.specs.Term.{Tree, Trees, node, none, more, Var, Environment, has_text, location_of, without, binders, variable_or, put_in, put_below, loc}
use Rattle.code_table.specs.Fitting.{names}

pub text_same : (x y : Text) → same_text x y ≡ true → x ≡ y
text_same x y e = (bytes_eq-Decides x y).0 e

-- the entries that keep
abbrev pub keep : Bool → Text × ℕ → Environment → Environment
keep true x es = es
keep false x es = x ∷ es

pub without_cons : (b : List Text) (x : Text × ℕ) (e : Environment) → without b (x ∷ e) ≡ keep (has_text x.0 b) x (without b e)
without_cons b x e = elim (has_text x.0 b) as (λ t. elim t [ true ↦ without b e | false ↦ x ∷ without b e ] ≡ keep t x (without b e)) [ true ↦ refl | false ↦ refl ]

pub without_append : (b : List Text) (d e : Environment) → without b (d ++ e) ≡ without b d ++ without b e
without_append b [] e = refl
without_append b (x ∷ d) e = without_cons b x (d ++ e) ∙ ap (keep (has_text x.0 b) x) (without_append b d e) ∙ go (has_text x.0 b) ∙ ap (λ y. y ++ without b e) (sym (without_cons b x d))
  where
    go : (t : Bool) → keep t x (without b d ++ without b e) ≡ keep t x (without b d) ++ without b e
    go true = refl
    go false = refl

pub not_same : (b : List Text) (x y : Text) (t : Bool) → same_text x y ≡ t → has_text x b ≡ false → has_text y b ≡ true → same_text x y ≡ false
not_same b x y true p h q = absurd (subst T (sym q ∙ ap (λ z. has_text z b) (sym (text_same x y p)) ∙ h) tt)
not_same b x y false p h q = p

left_step : (b : List Text) (d : Environment) (x : Text) (y : Text × ℕ) (t : Bool) → has_text x b ≡ false → has_text x (names (without b d)) ≡ has_text x (names d) → has_text y.0 b ≡ t → has_text x (names (keep t y (without b d))) ≡ (same_text x y.0 || has_text x (names d))
left_step b d x y true h ih p = ih ∙ ap (λ t. t || has_text x (names d)) (sym (not_same b x y.0 (same_text x y.0) refl h p))
left_step b d x y false h ih p = ap (λ t. same_text x y.0 || t) ih

-- a name that b lacks is among the names that are left exactly where it was among them
pub left_names : (b : List Text) (d : Environment) (x : Text) → has_text x b ≡ false → has_text x (names (without b d)) ≡ has_text x (names d)
left_names b [] x h = refl
left_names b (y ∷ d) x h = ap (λ z. has_text x (names z)) (without_cons b y d) ∙ left_step b d x y (has_text y.0 b) h (left_names b d x h) refl

swap_step : (b : List Text) (d e : Environment) (x : Text × ℕ) (s t : Bool) → has_text x.0 b ≡ s → has_text x.0 (names d) ≡ t → without b (without (names d) e) ≡ without (names (without b d)) (without b e) → without b (keep t x (without (names d) e)) ≡ without (names (without b d)) (keep s x (without b e))
swap_step b d e x true true p q ih = ih
swap_step b d e x true false p q ih = without_cons b x (without (names d) e) ∙ ap (λ t. keep t x (without b (without (names d) e))) p ∙ ih
swap_step b d e x false true p q ih = ih ∙ sym (without_cons (names (without b d)) x (without b e) ∙ ap (λ t. keep t x (without (names (without b d)) (without b e))) (left_names b d x.0 p ∙ q))
swap_step b d e x false false p q ih = without_cons b x (without (names d) e) ∙ ap (λ t. keep t x (without b (without (names d) e))) p ∙ ap (λ es. x ∷ es) ih ∙ sym (without_cons (names (without b d)) x (without b e) ∙ ap (λ t. keep t x (without (names (without b d)) (without b e))) (left_names b d x.0 p ∙ q))

pub swap_without : (b : List Text) (d e : Environment) → without b (without (names d) e) ≡ without (names (without b d)) (without b e)
swap_without b d [] = refl
swap_without b d (x ∷ e) = ap (without b) (without_cons (names d) x e) ∙ swap_step b d e x (has_text x.0 b) (has_text x.0 (names d)) refl refl (swap_without b d e) ∙ ap (without (names (without b d))) (sym (without_cons b x e))

-- a variable
pub put_var : Environment → Text → Tree
put_var d x = variable_or x (location_of x d)

abbrev pub look : Bool → ℕ → Option ℕ → Option ℕ
look true n o = Some n
look false n o = o

pub look_cons : (x : Text) (y : Text × ℕ) (e : Environment) → location_of x (y ∷ e) ≡ look (same_text x y.0) y.1 (location_of x e)
look_cons x y e = elim (same_text x y.0) as (λ t. elim t [ true ↦ Some y.1 | false ↦ location_of x e ] ≡ look t y.1 (location_of x e)) [ true ↦ refl | false ↦ refl ]

abbrev put_or : Text → Environment → Option ℕ → Tree
put_or x d None = variable_or x (location_of x d)
put_or x d (Some n) = loc n

-- what d finds, or else what e finds
abbrev pub or_else : Option ℕ → Option ℕ → Option ℕ
or_else None o = o
or_else (Some n) o = Some n

pub look_append : (x : Text) (d e : Environment) → location_of x (d ++ e) ≡ or_else (location_of x d) (location_of x e)
look_append x [] e = refl
look_append x (y ∷ d) e = look_cons x y (d ++ e) ∙ ap (look (same_text x y.0) y.1) (look_append x d e) ∙ turn (same_text x y.0) ∙ ap (λ o. or_else o (location_of x e)) (sym (look_cons x y d))
  where
    turn : (t : Bool) → look t y.1 (or_else (location_of x d) (location_of x e)) ≡ or_else (look t y.1 (location_of x d)) (location_of x e)
    turn true = refl
    turn false = refl

pub look_without : (x : Text) (b : List Text) (t : Bool) → has_text x b ≡ t → (e : Environment) → location_of x (without b e) ≡ cond t None (location_of x e)
look_without x b true h [] = refl
look_without x b false h [] = refl
look_without x b t h (y ∷ e) = ap (location_of x) (without_cons b y e) ∙ turn t h (has_text y.0 b) refl (same_text x y.0) refl (look_without x b t h e) ∙ ap (cond t None) (sym (look_cons x y e))
  where
    turn : (t : Bool) → has_text x b ≡ t → (s : Bool) → has_text y.0 b ≡ s → (r : Bool) → same_text x y.0 ≡ r → location_of x (without b e) ≡ cond t None (location_of x e) → location_of x (keep s y (without b e)) ≡ cond t None (look r y.1 (location_of x e))
    turn true h true p r q ih = ih
    turn true h false p true q ih = absurd (subst T (sym h ∙ ap (λ z. has_text z b) (text_same x y.0 q) ∙ p) tt)
    turn true h false p false q ih = look_cons x y (without b e) ∙ ap (λ r. look r y.1 (location_of x (without b e))) q ∙ ih
    turn false h true p true q ih = absurd (subst T (sym p ∙ ap (λ z. has_text z b) (sym (text_same x y.0 q)) ∙ h) tt)
    turn false h true p false q ih = ih
    turn false h false p r q ih = look_cons x y (without b e) ∙ ap (λ r. look r y.1 (location_of x (without b e))) q ∙ ap (look r y.1) ih

pub named_found : (x : Text) (d : Environment) → has_text x (names d) ≡ true → (o : Option ℕ) → or_else (location_of x d) o ≡ location_of x d
named_found x [] h o = absurd (subst T (sym h) tt)
named_found x (y ∷ d) h o = ap (λ z. or_else z o) (look_cons x y d) ∙ turn (same_text x y.0) refl (named_found x d) ∙ sym (look_cons x y d)
  where
    turn : (t : Bool) → same_text x y.0 ≡ t → (has_text x (names d) ≡ true → (o : Option ℕ) → or_else (location_of x d) o ≡ location_of x d) → or_else (look t y.1 (location_of x d)) o ≡ look t y.1 (location_of x d)
    turn true p ih = refl
    turn false p ih = ih (sym (ap (λ t. t || has_text x (names d)) p) ∙ h) o

pub missing_named : (x : Text) (d : Environment) → has_text x (names d) ≡ false → location_of x d ≡ None
missing_named x [] h = refl
missing_named x (y ∷ d) h = look_cons x y d ∙ turn (same_text x y.0) refl (missing_named x d)
  where
    turn : (t : Bool) → same_text x y.0 ≡ t → (has_text x (names d) ≡ false → location_of x d ≡ None) → look t y.1 (location_of x d) ≡ None
    turn true p ih = absurd (subst T (sym (ap (λ t. t || has_text x (names d)) p) ∙ h) tt)
    turn false p ih = ih (sym (ap (λ t. t || has_text x (names d)) p) ∙ h)

put_twice_var : (d e : Environment) (x : Text) → put_in d (variable_or x (location_of x (without (names d) e))) ≡ variable_or x (location_of x (d ++ e))
put_twice_var d e x = ap (λ o. put_in d (variable_or x o)) (look_without x (names d) (has_text x (names d)) refl e) ∙ turn (has_text x (names d)) refl ∙ ap (variable_or x) (sym (look_append x d e))
  where
    here : (o : Option ℕ) → put_in d (variable_or x o) ≡ put_or x d o
    here None = refl
    here (Some n) = refl

    turn : (t : Bool) → has_text x (names d) ≡ t → put_in d (variable_or x (cond t None (location_of x e))) ≡ variable_or x (or_else (location_of x d) (location_of x e))
    turn true h = ap (variable_or x) (sym (named_found x d h (location_of x e)))
    turn false h = here (location_of x e) ∙ last (location_of x e) ∙ ap (λ o. variable_or x (or_else o (location_of x e))) (sym (missing_named x d h))
      where
        last : (o : Option ℕ) → put_or x d o ≡ variable_or x (or_else None o)
        last None = ap (variable_or x) (missing_named x d h)
        last (Some n) = refl

mutual
  -- the names of d are bound in d and not in e
  pub put_twice : (t : Tree) (d e : Environment) → put_in d (put_in (without (names d) e) t) ≡ put_in (d ++ e) t
  put_twice (node (Var x) ts) d e = put_twice_var d e x
  put_twice (node h ts) d e = ap (node h) (all_twice ts d e (binders h))

  pub all_twice : (ts : Trees) (d e : Environment) (bs : List (List Text)) → put_below d bs (put_below (without (names d) e) bs ts) ≡ put_below (d ++ e) bs ts
  all_twice none d e bs = refl
  all_twice (more t ts) d e [] = λ i. more (put_twice t d e i) (all_twice ts d e [] i)
  all_twice (more t ts) d e (b ∷ bs) =
      λ i. more ((ap (λ x. put_in (without b d) (put_in x t)) (swap_without b d e) ∙ put_twice t (without b d) (without b e) ∙ ap (λ x. put_in x t) (sym (without_append b d e))) i) (all_twice ts d e bs i)
