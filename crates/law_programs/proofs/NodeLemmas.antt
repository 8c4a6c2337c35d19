-- A proper redex has the places and terms that its head's row asks for.
use Rattle.std.specs.Prelude.{◌≡◌, ◌≤◌, ℕ, ◌+◌, true, false, List, [], ◌∷◌, length}
use Rattle.std.proofs.Common.{sym, subst, arith}
use Rattle.asp_model.specs.Term.{Head, Loc, Hole, Var, Number, Make, Get, Put, Call, Clone, Active, Serve, Pending, Let, Steps, If, Repeat, Operate, Print, Echo, Scatter, Size, Member, WaitAll, Tree, Trees, none, more, locs_then, child_count}
use Rattle.asp_model.specs.Term as term
use Rattle.asp_model.specs.Readable.{HasArity}
use Rattle.asp_model.specs.Split.{Redex, reduced_count}
use Rattle.law_chases.proofs.FutureLemmas.{none_true}
use Rattle.law_programs.specs.Proper.{is_proper_node}
use Rattle.law_programs.proofs.TermLemmas.{IsProperRedex, is_place, count_behind}

-- what a head's row asks for
abbrev pub Shaped : Head → List ℕ → Trees → Type 0
Shaped (Number z) [] none = Unit {0}
Shaped (Make fields methods) ns ts = (length ns ≡ length fields) × (child_count ts ≡ length methods)
Shaped (Echo text) [] none = Unit {0}
Shaped (Get l) (i ∷ []) none = Unit {0}
Shaped (Put l) (i ∷ k ∷ []) none = Unit {0}
Shaped (Call l) (i ∷ ks) none = Unit {0}
Shaped Clone (i ∷ []) none = Unit {0}
Shaped (Active service) (i ∷ []) none = Unit {0}
Shaped (Serve labels) [] none = Unit {0}
Shaped (Pending labels) [] none = Unit {0}
Shaped (Let x) (i ∷ []) (more body none) = Unit {0}
Shaped Steps (i ∷ []) (more t ts) = Unit {0}
Shaped If (i ∷ []) (more a (more b none)) = Unit {0}
Shaped Repeat [] (more a none) = Unit {0}
Shaped (Operate sign) (i ∷ k ∷ []) none = Unit {0}
Shaped Print (i ∷ []) none = Unit {0}
Shaped term.Group ns none = Unit {0}
Shaped (Scatter l) (i ∷ k ∷ []) none = Unit {0}
Shaped Size (i ∷ []) none = Unit {0}
Shaped Member (i ∷ k ∷ []) none = Unit {0}
Shaped WaitAll (i ∷ []) none = Unit {0}
Shaped h ns ts = ⊥

-- Lists of a length

no_places : (P : List ℕ → Type 0) → P [] → (ns : List ℕ) → length ns ≡ 0 → P ns
no_places P h [] e = h
no_places P h (n ∷ ns) e = absurd (omega (arith, e))

one_place : (P : List ℕ → Type 0) → ((i : ℕ) → P (i ∷ [])) → (ns : List ℕ) → length ns ≡ 1 → P ns
one_place P h [] e = absurd (omega (arith, e))
one_place P h (i ∷ []) e = h i
one_place P h (i ∷ k ∷ ns) e = absurd (omega (arith, e))

two_places : (P : List ℕ → Type 0) → ((i k : ℕ) → P (i ∷ k ∷ [])) → (ns : List ℕ) → length ns ≡ 2 → P ns
two_places P h [] e = absurd (omega (arith, e))
two_places P h (i ∷ []) e = absurd (omega (arith, e))
two_places P h (i ∷ k ∷ []) e = h i k
two_places P h (i ∷ k ∷ n ∷ ns) e = absurd (omega (arith, e))

some_places : (P : List ℕ → Type 0) → ((i : ℕ) (ks : List ℕ) → P (i ∷ ks)) → (ns : List ℕ) → 1 ≤ length ns → P ns
some_places P h [] e = absurd (omega (arith, e))
some_places P h (i ∷ ks) e = h i ks

no_terms : (P : Trees → Type 0) → P none → (ts : Trees) → child_count ts ≡ 0 → P ts
no_terms P h none e = h
no_terms P h (more t ts) e = absurd (omega (arith, e))

one_term : (P : Trees → Type 0) → ((t : Tree) → P (more t none)) → (ts : Trees) → child_count ts ≡ 1 → P ts
one_term P h none e = absurd (omega (arith, e))
one_term P h (more t none) e = h t
one_term P h (more t (more u ts)) e = absurd (omega (arith, e))

two_terms : (P : Trees → Type 0) → ((t u : Tree) → P (more t (more u none))) → (ts : Trees) → child_count ts ≡ 2 → P ts
two_terms P h none e = absurd (omega (arith, e))
two_terms P h (more t none) e = absurd (omega (arith, e))
two_terms P h (more t (more u none)) e = h t u
two_terms P h (more t (more u (more v ts))) e = absurd (omega (arith, e))

some_terms : (P : Trees → Type 0) → ((t : Tree) (ts : Trees) → P (more t ts)) → (ts : Trees) → 1 ≤ child_count ts → P ts
some_terms P h none e = absurd (omega (arith, e))
some_terms P h (more t ts) e = h t ts

-- Heads

module _ (h : Head) where
  at_one : (ns : List ℕ) (ts : Trees) → length ns ≡ 1 → length ns + child_count ts ≡ 1 → ((i : ℕ) → Shaped h (i ∷ []) none) → Shaped h ns ts
  at_one ns ts e a x = one_place (λ us. Shaped h us ts) (λ i. no_terms (Shaped h (i ∷ [])) (x i) ts (omega (arith, e, a))) ns e

  at_two : (ns : List ℕ) (ts : Trees) → length ns ≡ 2 → length ns + child_count ts ≡ 2 → ((i k : ℕ) → Shaped h (i ∷ k ∷ []) none) → Shaped h ns ts
  at_two ns ts e a x = two_places (λ us. Shaped h us ts) (λ i k. no_terms (Shaped h (i ∷ k ∷ [])) (x i k) ts (omega (arith, e, a))) ns e

  at_none : (ns : List ℕ) (ts : Trees) → length ns + child_count ts ≡ 0 → Shaped h [] none → Shaped h ns ts
  at_none ns ts a x = no_places (λ us. Shaped h us ts) (no_terms (Shaped h []) x ts (omega (arith, a))) ns (omega (arith, a))

head_shaped : (h : Head) (ns : List ℕ) (ts : Trees) → is_place h ≡ false → is_proper_node [] h ≡ true → HasArity h (length ns + child_count ts) → length ns ≡ reduced_count h (locs_then ns ts) → Shaped h ns ts
head_shaped (Loc n) ns ts p w a e = none_true (sym p)
head_shaped Hole ns ts p w a e = none_true w
head_shaped (Var x) ns ts p w a e = none_true w
head_shaped (Number z) ns ts p w a e = at_none (Number z) ns ts a tt
head_shaped (Make fields methods) ns ts p w a e = (e, omega (arith, a, e))
head_shaped (Echo text) ns ts p w a e = at_none (Echo text) ns ts a tt
head_shaped (Get l) ns ts p w a e = at_one (Get l) ns ts e a (λ i. tt)
head_shaped (Put l) ns ts p w a e = at_two (Put l) ns ts e a (λ i k. tt)
head_shaped (Call l) ns ts p w a e =
    let none_left : child_count ts ≡ 0 = omega (arith, e, count_behind ns ts) in
    some_places (λ us. Shaped (Call l) us ts) (λ i ks. no_terms (Shaped (Call l) (i ∷ ks)) tt ts none_left) ns (omega (arith, a, none_left))
head_shaped Clone ns ts p w a e = at_one Clone ns ts e a (λ i. tt)
head_shaped (Active service) ns ts p w a e = at_one (Active service) ns ts e a (λ i. tt)
head_shaped (Serve labels) ns ts p w a e = at_none (Serve labels) ns ts a tt
head_shaped (Pending labels) ns ts p w a e = at_none (Pending labels) ns ts a tt
head_shaped (Let x) ns ts p w a e = one_place (λ us. Shaped (Let x) us ts) (λ i. one_term (Shaped (Let x) (i ∷ [])) (λ t. tt) ts (omega (arith, e, a))) ns e
head_shaped Steps ns ts p w a e = one_place (λ us. Shaped Steps us ts) (λ i. some_terms (Shaped Steps (i ∷ [])) (λ t us. tt) ts (omega (arith, e, a))) ns e
head_shaped If ns ts p w a e = one_place (λ us. Shaped If us ts) (λ i. two_terms (Shaped If (i ∷ [])) (λ t u. tt) ts (omega (arith, e, a))) ns e
head_shaped Repeat ns ts p w a e = no_places (λ us. Shaped Repeat us ts) (one_term (Shaped Repeat []) (λ t. tt) ts (omega (arith, e, a))) ns e
head_shaped (Operate sign) ns ts p w a e = at_two (Operate sign) ns ts e a (λ i k. tt)
head_shaped Print ns ts p w a e = at_one Print ns ts e a (λ i. tt)
head_shaped term.Group ns ts p w a e = no_terms (Shaped term.Group ns) tt ts (omega (arith, e, count_behind ns ts))
head_shaped (Scatter l) ns ts p w a e = at_two (Scatter l) ns ts e a (λ i k. tt)
head_shaped Size ns ts p w a e = at_one Size ns ts e a (λ i. tt)
head_shaped Member ns ts p w a e = at_two Member ns ts e a (λ i k. tt)
head_shaped WaitAll ns ts p w a e = at_one WaitAll ns ts e a (λ i. tt)

pub redex_shaped : (r : Redex) → IsProperRedex r → Shaped r.head r.places r.behind
redex_shaped r h = head_shaped r.head r.places r.behind h.reduced h.node.0 (subst (HasArity r.head) (count_behind r.places r.behind) h.node.1) h.count
