-- A redex, opened.
use Rattle.std.proofs.Common.{◌≡◌, ℕ, zero, suc, ◌+◌, ◌≤◌, ◌⊎◌, true, List, [], ◌∷◌, ◌++◌, length, refl, sym, ap, ◌∙◌, arith, inl, inr, ⊎_elim}
use Rattle.asp_model.specs.Split.{Redex, reduced_count}
use Rattle.asp_model.specs.Term.{Trees, node, none, more, locs_then}
use Rattle.code_laws.specs.Splitting.{redex_node, IsRedex}
use Rattle.frozen_code.specs.Held.{filler, filled, redex_left}
use Rattle.term_opening.specs.Opening.{emptied_first, done_first, emptied_node, done_in}

one_more : (ps qs : List ℕ) (q : ℕ) → (ps ++ q ∷ []) ++ qs ≡ ps ++ (q ∷ qs)
one_more [] qs q = refl
one_more (p ∷ ps) qs q = ap (λ (rs : List ℕ). p ∷ rs) (one_more ps qs q)

nothing_more : (ps : List ℕ) → ps ≡ ps ++ []
nothing_more [] = refl
nothing_more (p ∷ ps) = ap (λ (rs : List ℕ). p ∷ rs) (nothing_more ps)

-- Redexes

all_places : (n : ℕ) (ps : List ℕ) (us : Trees) → length ps ≤ n → (n ≡ length ps) ⊎ (us ≡ none) → emptied_first true n (locs_then ps us) ≡ filled (length ps) us
all_places n [] us l e = ⊎_elim (λ q. ap (λ (m : ℕ). emptied_first true m us) q) (λ q. ap (emptied_first true n) q ∙ none_left n ∙ sym q) e
  where
    none_left : (n : ℕ) → emptied_first true n none ≡ none
    none_left zero = refl
    none_left (suc n) = refl
all_places zero (p ∷ ps) us l e = absurd (omega (arith, l))
all_places (suc n) (p ∷ ps) us l e =
    let less : length ps ≤ n = omega (arith, l) in
    ap (more filler) (all_places n ps us less (⊎_elim (λ q. let fewer : n ≡ length ps = omega (arith, q) in inl fewer) inr e))

all_done : (rs : List ℕ) (n : ℕ) (ps : List ℕ) (us : Trees) → length ps ≤ n → (n ≡ length ps) ⊎ (us ≡ none) → done_first true rs n (locs_then ps us) ≡ rs ++ ps
all_done rs n [] us l e = ⊎_elim (λ q. ap (λ (m : ℕ). done_first true rs m us) q) (λ q. ap (done_first true rs n) q ∙ none_left n) e ∙ nothing_more rs
  where
    none_left : (n : ℕ) → done_first true rs n none ≡ rs
    none_left zero = refl
    none_left (suc n) = refl
all_done rs zero (p ∷ ps) us l e = absurd (omega (arith, l))
all_done rs (suc n) (p ∷ ps) us l e =
    let less : length ps ≤ n = omega (arith, l) in
    all_done (rs ++ p ∷ []) n ps us less (⊎_elim (λ q. let fewer : n ≡ length ps = omega (arith, q) in inl fewer) inr e) ∙ one_more rs ps p

redex_long : (r : Redex) → IsRedex r → length r.places ≤ reduced_count r.head (locs_then r.places r.behind)
redex_long r is = ⊎_elim (λ q. omega (arith, q)) (λ q. q.1) is.1

redex_ends : (r : Redex) → IsRedex r → (reduced_count r.head (locs_then r.places r.behind) ≡ length r.places) ⊎ (r.behind ≡ none)
redex_ends r is = ⊎_elim (λ q. inl q) (λ q. inr q.0) is.1

pub redex_emptied : (r : Redex) → IsRedex r → emptied_node (redex_node r) ≡ redex_left r
redex_emptied r is = ap (node r.head) (all_places _ r.places r.behind (redex_long r is) (redex_ends r is))

pub redex_done : (r : Redex) → IsRedex r → done_in [] (redex_node r) ≡ r.places
redex_done r is = all_done [] _ r.places r.behind (redex_long r is) (redex_ends r is)
