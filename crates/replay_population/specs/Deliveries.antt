-- What a delivery of a future's value makes of a population.
use Rattle.std.specs.Prelude.{ℕ, Bool, true, false, List, Option, Some, None}
use Rattle.std.specs.FinMap.{find}
use Rattle.std.specs.Option.{option_map}
use Rattle.asp_model.specs.Names.{FutureShape, future_cmp}
use Rattle.asp_model.specs.Store.{Store, cell}
use Rattle.asp_model.specs.Parcel.{unpack_at}
use Rattle.asp_model.specs.Chase.{Values, chase}
use Rattle.asp_model.specs.Configuration as model
use Rattle.asp_model.specs.Configuration.{Configuration, RequestShape}
use Rattle.def_journals.specs.Deliveries.{holders_from, unpack_each, value_needed}
use Rattle.step_activity.specs.declared.actor.Actor.{Actor}
use Rattle.step_activity.specs.Actors.{Stands}
use Rattle.replay_population.specs.declared.population.Population.{Population}
use Rattle.replay_population.specs.Population.{IsPopulation}

-- the delivery was made, or there is none and nothing changed
abbrev pub IsDelivered : Population → Configuration → Option Configuration → Bool → Type 0
IsDelivered p c (Some d) true = IsPopulation p d
IsDelivered p c None false = IsPopulation p c
IsDelivered p c o b = ⊥

-- the store after the own value of a future came to each place that held it, if it has a value
abbrev pub store_with : Values → FutureShape → model.Activity → Option Store
store_with values f a = option_map
    (λ p. unpack_each a.store (holders_from 0 f a.store) p) (find future_cmp f values)

-- after the value of a future came to a place whose future leads to it, if that is so
abbrev pub store_at : Values → FutureShape → ℕ → model.Activity → Option Store
store_at values f place a = option_map
    (λ p. unpack_at a.store place p) (value_needed (chase values) f (cell a.store place))

-- the actor stands for the activity with that store, or there is none and nothing changed
abbrev pub IsStored : Actor → model.Activity → List RequestShape → Option Store → Bool → Type 0
IsStored x a rs (Some s) true = Stands x (record a { store = s }) rs
IsStored x a rs None false = Stands x a rs
IsStored x a rs o b = ⊥
