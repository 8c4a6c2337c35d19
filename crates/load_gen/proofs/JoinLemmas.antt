-- Texts joined one by one.
use Rattle.std.proofs.Common.{◌≡◌, ℕ, List, ◌++◌, refl, ap, ◌∙◌, append_assoc}

-- a line with the number, a line, a line with the number and a last line
pub four_lines : (a d b m x y p whole third second first call : List ℕ)
    → first ≡ a ++ d ++ b → second ≡ first ++ m → call ≡ x ++ d ++ y → third ≡ second ++ call → whole ≡ third ++ p
    → whole ≡ a ++ d ++ b ++ m ++ (x ++ d ++ y) ++ p
four_lines a d b m x y p whole third second first call first_is second_is call_is third_is whole_is =
    whole_is ∙ ap (λ (l : List ℕ). l ++ p) (third_is ∙ ap (λ (l : List ℕ). second ++ l) call_is ∙ ap (λ (l : List ℕ). l ++ (x ++ d ++ y)) (second_is ∙ ap (λ (l : List ℕ). l ++ m) first_is))
    ∙ simp append_assoc refl
