-- What is found in each of the parts of a text, part by part.
use Rattle.std.proofs.Common.{ℕ, List, ◌++◌, map, drop, Option, Some, None, Bor}
use Rattle.asp_model.specs.Names.{Text}
use Rattle.asp_model.specs.ReportLines.{all_found}

-- what was found, and then what is found in the rest
abbrev pub with_front : {X : Type 0} → List X → Option (List X) → Option (List X)
with_front xs None = None
with_front xs (Some ys) = Some (xs ++ ys)

-- in the parts from this place on
abbrev pub found_from : {X : Type 0} → (Text → Option X) → List X → List (Bor (List ℕ)) → ℕ → Option (List X)
found_from f front ps i = with_front front (all_found f (map (λ p. p.now) (drop i ps)))
