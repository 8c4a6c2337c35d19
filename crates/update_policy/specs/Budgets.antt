-- What a policy answers that has so many answers left.
use Rattle.std.specs.Prelude.{ℕ, zero, suc}
use Rattle.asp_model.specs.History.{ChoiceShape, FromHome, Leave}

-- from home while there are answers left
abbrev pub by_budget : ℕ → ChoiceShape
by_budget zero = Leave
by_budget (suc n) = FromHome
