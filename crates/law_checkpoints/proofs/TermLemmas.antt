-- Proper terms are locations, or redexes in contexts.
use Rattle.std.specs.Prelude.{◌≡◌, ℕ, zero, suc, Bool, true, false, List, [], ◌∷◌, ◌++◌}
use Rattle.std.proofs.Common.{refl, sym, ap, ◌∙◌, arith}
use Rattle.asp_model.specs.Names.{Text}
use Rattle.asp_model.specs.Term.{Head, Loc, Tree, Trees, node, none, more, loc, binders, child_count}
use Rattle.asp_model.specs.Split.{Split, Stands, Splits, reduced_count, split, split_below}
use Rattle.law_chases.proofs.FutureLemmas.{none_true}
use Rattle.code_laws.specs.Splitting.{HasBareLocations, HaveBareLocations}
use Rattle.code_laws.proofs.SplitLemmas.{splits_are_redexes, splits_plug_back}
use Rattle.law_programs.specs.Proper.{IsProper, AreProper}
use Rattle.law_programs.proofs.TermLemmas.{ProperSplit, split_proper}
use Rattle.law_checkpoints.specs.Laws.{IsSplitAgain, TermsAreRedexes}

no_children : (ts : Trees) → child_count ts ≡ 0 → ts ≡ none
no_children none e = refl
no_children (more t ts) e = absurd (omega (arith, e))

mutual
  bare : (xs : List Text) (t : Tree) → IsProper xs t → HasBareLocations t
  bare xs (node (Loc n) ts) h = no_children ts h.1
  bare xs (node k ts) h = bare_below xs (binders k) ts h.2

  bare_below : (xs : List Text) (names : List (List Text)) (ts : Trees) → AreProper xs names ts → HaveBareLocations ts
  bare_below xs names none h = tt
  bare_below xs [] (more t ts) h = (bare xs t h.0, bare_below xs [] ts h.1)
  bare_below xs (ys ∷ names) (more t ts) h = (bare _ t h.0, bare_below xs names ts h.1)

-- Splits that are places

abbrev is_place : Split → Bool
is_place (Stands n) = true
is_place (Splits contexts redex) = false

abbrev place_or : ℕ → Split → ℕ
place_or k (Stands n) = n
place_or k (Splits contexts redex) = k

no_place : (h : Head) (n : ℕ) (places : List ℕ) (ts : Trees) → is_place (split_below h n places ts) ≡ false
no_place h n places none = refl
no_place h zero places (more t ts) = refl
no_place h (suc n) places (more t ts) = by (split t) (λ p. no_place h n (places ++ p ∷ []) ts)
  where
    by : (x : Split) → ((p : ℕ) → is_place (split_below h n (places ++ p ∷ []) ts) ≡ false) → is_place (elim x [
      | Stands p ↦ split_below h n (places ++ p ∷ []) ts
      | Splits contexts redex ↦ Splits (contexts ++ record { head = h; before = places; behind = ts } ∷ []) redex
    ]) ≡ false
    by (Stands p) rest = rest p
    by (Splits contexts redex) rest = refl

place_is : (t : Tree) → HasBareLocations t → (n : ℕ) → split t ≡ Stands n → t ≡ loc n
place_is (node (Loc j) ts) b n e = let same : j ≡ n = ap (place_or n) e in (λ i. node (Loc (same i)) (b i))
place_is (node h ts) b n e = none_true (sym (no_place h (reduced_count h ts) [] ts) ∙ ap is_place e)

split_again : (t : Tree) → IsProper [] t → (s : Split) → split t ≡ s → ProperSplit s → IsSplitAgain t s
split_again t h (Stands n) is p = place_is t (bare [] t h) n is
split_again t h (Splits contexts redex) is p =
    let r = splits_are_redexes t contexts redex is in
    (splits_plug_back t contexts redex (bare [] t h) is, (r.0, p.0), (r.1, p.1.node))

pub terms_are_redexes : TermsAreRedexes
terms_are_redexes t h = split_again t h (split t) refl (split_proper t h)
