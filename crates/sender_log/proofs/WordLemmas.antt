-- The words of an activity line.
use Rattle.std.proofs.Common.{◌≡◌, ℕ, ◌<◌, List, [], ◌∷◌, map, length, None, Bor, refl, arith}
use Rattle.asp_model.specs.ReportLines.{activity_in}

-- a line of fewer words is no activity line
pub few_words : (ws : List (Bor (List ℕ))) → length ws < 3 → None ≡ activity_in (map (λ w. w.now) ws)
few_words [] h = refl
few_words (a ∷ []) h = refl
few_words (a ∷ b ∷ []) h = refl
few_words (a ∷ b ∷ c ∷ ws) h = absurd (omega (arith, h))
