-- Texts cut at a byte, in the words of the library.
use Rattle.std.proofs.Common.{◌≡◌, ℕ, Bool, true, false, cond, List, [], ◌∷◌, refl, ap, ◌∙◌}
use Rattle.std.specs.Prelude.{◌==◌}
use Rattle.std.specs.List.{slice_split, onto_first}
use Rattle.asp_model.specs.ReportLines.{parts}

chosen : (b : Bool) (xs ys : List (List ℕ)) → cond b xs ys ≡ elim b [ true ↦ xs | false ↦ ys ]
chosen true xs ys = refl
chosen false xs ys = refl

pub split_is : (c : ℕ) (bs : List ℕ) → slice_split (λ b. b == c) bs ≡ parts c bs
split_is c [] = refl
split_is c (b ∷ bs) =
    ap (λ (ps : List (List ℕ)). cond (b == c) ([] ∷ ps) (onto_first b ps)) (split_is c bs)
    ∙ chosen (b == c) ([] ∷ parts c bs) (onto_first b (parts c bs))
