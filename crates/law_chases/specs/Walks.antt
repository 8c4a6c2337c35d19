-- Walks of every length from a future along the roots of values, and the cycles that they come into.
use Rattle.std.specs.Prelude.{◌≡◌, ℕ, zero, suc, true, false, is_some}
use Rattle.std.specs.FinMap.{find}
use Rattle.asp_model.specs.Names.{FutureShape, future_cmp, future_lt}
use Rattle.asp_model.specs.Chase.{Values, Goes, lead}

abbrev pub IsFilled : Values → FutureShape → Type 0
IsFilled values f = is_some (find future_cmp f values) ≡ true

-- a walk of n steps goes from f to g
abbrev pub Walk : Values → ℕ → FutureShape → FutureShape → Type 0
Walk values zero f g = f ≡ g
Walk values (suc n) f g = (h : FutureShape) × (lead values f ≡ Goes h) × Walk values n h g

-- there is a walk from f to g
abbrev pub Reaches : Values → FutureShape → FutureShape → Type 0
Reaches values f g = (n : ℕ) × Walk values n f g

-- wherever a walk from f is, it goes on
abbrev pub NeverEnds : Values → FutureShape → Type 0
NeverEnds values f = (g : FutureShape) → Reaches values f g → (h : FutureShape) × (lead values g ≡ Goes h)

-- a walk from f comes back to f, in one step or more
abbrev pub IsInCycle : Values → FutureShape → Type 0
IsInCycle values f = (n : ℕ) × Walk values (suc n) f f

-- the walks from f and from g come into one cycle
abbrev pub ShareCycle : Values → FutureShape → FutureShape → Type 0
ShareCycle values f g = (c : FutureShape) × IsInCycle values c × Reaches values f c × Reaches values g c

-- the least filled future whose walk comes into the cycle into which that of f comes
pub record IsCycleName (values : Values) (f name : FutureShape) : Type 0 where
  pub filled : IsFilled values name
  pub comes : ShareCycle values f name
  pub least : (g : FutureShape) → IsFilled values g → ShareCycle values f g → future_lt g name ≡ false
