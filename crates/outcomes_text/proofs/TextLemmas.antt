-- Outcomes one by one.
use Rattle.std.proofs.Common.{◌≡◌, ℕ, zero, suc, ◌+◌, List, [], ◌∷◌, ◌++◌, take, ap, ◌∙◌, sym, arith, append_assoc, Some}
use Rattle.std.specs.Prelude.{slice_get}
use Rattle.std.proofs.lemmas.List.{append-nil}
use Rattle.outcomes_text.specs.Outcomes.{Outcome}
use Rattle.outcomes_text.specs.Told.{one_outcome, outcomes_from}

-- a loop's step
pub one_more : (n : ℕ) (os : List Outcome) (i : ℕ) (o : Outcome) → slice_get os i ≡ Some o
    → outcomes_from n (take (i + 1) os) ≡ outcomes_from n (take i os) ++ one_outcome (n + i) o.ends o.text
one_more n os i o h =
    let next : i + 1 ≡ suc i = omega arith in
    ap (λ (k : ℕ). outcomes_from n (take k os)) next ∙ behind n os i h
  where
    behind : (n : ℕ) (os : List Outcome) (i : ℕ) → slice_get os i ≡ Some o → outcomes_from n (take (suc i) os) ≡ outcomes_from n (take i os) ++ one_outcome (n + i) o.ends o.text
    behind n [] i h = absurd cc
    behind n (x ∷ os) zero h =
        let same : x ≡ o = cc in
        let here : n ≡ n + 0 = omega arith in
        append-nil (one_outcome n x.ends x.text) ∙ ap (λ (y : Outcome). one_outcome n y.ends y.text) same ∙ ap (λ (k : ℕ). one_outcome k o.ends o.text) here
    behind n (x ∷ os) (suc i) h =
        let there : suc n + i ≡ n + suc i = omega arith in
        ap (λ (l : List ℕ). one_outcome n x.ends x.text ++ l) (behind (suc n) os i h ∙ ap (λ (k : ℕ). outcomes_from (suc n) (take i os) ++ one_outcome k o.ends o.text) there)
        ∙ sym (append_assoc (one_outcome n x.ends x.text) (outcomes_from (suc n) (take i os)) (one_outcome (n + suc i) o.ends o.text))
