-- Futures by their numbers in a list.
use Rattle.std.specs.Prelude.{◌≡◌, ℕ, zero, suc, Bool, true, false, List, [], ◌∷◌, ◌++◌, Option, Some, None, map}
use Rattle.std.specs.List.{IsDistinct}
use Rattle.asp_model.specs.declared.name.FutureName.{FutureName}
use Rattle.asp_model.specs.contracts.name.FutureNamePartialEq.TheImpl as equality
use Rattle.asp_model.specs.Names.{FutureShape, same_future}
use Rattle.asp_model.specs.Shapes.{future_shape}

abbrev pub nobody : FutureShape
nobody = record { by = []; index = 0 }

-- the future of a number; no call asks past the end
abbrev pub named : List FutureShape → ℕ → FutureShape
named [] n = nobody
named (f ∷ fs) zero = f
named (f ∷ fs) (suc n) = named fs n

abbrev pub number_from : ℕ → FutureShape → List FutureShape → Option ℕ
number_from k f [] = None
number_from k f (g ∷ gs) = elim (same_future f g) [ true ↦ Some k | false ↦ number_from (suc k) f gs ]

-- the number of a future, from 0
abbrev pub number_of : FutureShape → List FutureShape → Option ℕ
number_of = number_from 0

-- no future has two numbers
abbrev pub AreApart : List FutureName → Type 0
AreApart = IsDistinct equality.ghosts.eq

-- the futures of old and new numbers where this one was entered: it was new, or there
abbrev pub IsEntered : FutureName → List FutureName → List FutureName → Bool → Type 0
IsEntered f old new true = (number_of (future_shape f) (map future_shape old) ≡ None) × (new ≡ old ++ f ∷ [])
IsEntered f old new false = new ≡ old
