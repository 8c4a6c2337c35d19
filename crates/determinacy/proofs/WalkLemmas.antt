-- Arrivals that are chosen on two sides, compared one by one.
use Rattle.std.proofs.Common.{◌≡◌, ◌≤◌, ℕ, Bool, false, List, [], ◌∷◌, drop, length, sym, ap, ◌∙◌, arith}
use Rattle.std.proofs.lemmas.List.{drop_all}
use Rattle.std.specs.Cmp.Lexicographic.{pointwise}
use Rattle.asp_model.specs.declared.services.Arrival.{Arrival}
use Rattle.asp_model.specs.Names.{Text}
use Rattle.law_services.specs.Told.{same_arrival}
use Rattle.determinacy.specs.Walks.{IsNext, chosen}

-- where one more is left on the second side, the sides differ
pub one_left : (labels : List Text) (xs ys : List Arrival) (place from r : ℕ) (b : Bool) → length xs ≤ place → IsNext labels ys from r → pointwise same_arrival (chosen labels (drop place xs)) (chosen labels (drop from ys)) ≡ b → false ≡ b
one_left labels xs [] place from r b le next e = absurd (omega (arith, next.within))
one_left labels xs (y ∷ ys) place from r b le next e =
    let none : chosen labels (drop place xs) ≡ [] = ap (chosen labels) (drop_all place xs le) in
    sym (λ i. pointwise same_arrival (none i) (next.first y i)) ∙ e
