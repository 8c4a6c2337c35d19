-- Which policy a strategy names.
use Rattle.std.specs.Prelude.{◌≡◌}
use Rattle.update_policy.specs.declared.strategy.Strategy.{Strategy}
use Rattle.update_policy.specs.declared.strategy.Strategy.TheVariants.{Lazy, Forward, Message}
use Rattle.update_policy.specs.declared.strategy.Policies.{Policies}

abbrev pub policy_of : {P : Type 0} → Strategy → Policies P → P
policy_of Lazy p = p.lazy
policy_of Forward p = p.forward
policy_of Message p = p.message

-- the policies that the strategy does not name stay
abbrev pub IsAlikeBeside : {P : Type 0} → Strategy → (old new : Policies P) → Type 0
IsAlikeBeside Lazy old new = (new.forward ≡ old.forward) × (new.message ≡ old.message)
IsAlikeBeside Forward old new = (new.lazy ≡ old.lazy) × (new.message ≡ old.message)
IsAlikeBeside Message old new = (new.lazy ≡ old.lazy) × (new.forward ≡ old.forward)
