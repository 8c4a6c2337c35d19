-- Who waits for which future.
use Rattle.std.specs.Prelude.{◌≡◌, ◌≢◌, ℕ, true, List, [], Option, Some, None}
use Rattle.std.specs.Global.{Vec}
use Rattle.std.specs.Map.{lookup}
use Rattle.asp_model.specs.Names.{FutureShape, same_future}
use Rattle.asp_model.specs.Shapes.{future_shape}
use Rattle.core_ranks.specs.declared.waiting.Waiting.{Waiting}
use Rattle.core_ranks.specs.Numbers.{has_number}

abbrev pub items_or_none : Option (Vec ℕ) → List ℕ
items_or_none None = []
items_or_none (Some ns) = ns.items

-- the numbers of those who wait for a future
abbrev pub numbers_at : Waiting → FutureShape → List ℕ
numbers_at w f = items_or_none (lookup (λ g. same_future f (future_shape g)) w.numbers.entries)

-- one of those who wait, or nobody does
abbrev pub IsWaiter : Waiting → Option ℕ → Type 0
IsWaiter w None = (f : FutureShape) → numbers_at w f ≡ []
IsWaiter w (Some k) = (f : FutureShape) × (has_number k (numbers_at w f) ≡ true)

-- who waits for another future than this one does so still
abbrev pub StayElsewhere : FutureShape → (old new : Waiting) → Type 0
StayElsewhere f old new = (g : FutureShape) → f ≢ g → numbers_at new g ≡ numbers_at old g
