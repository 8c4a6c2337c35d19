-- Those who are needed, each by the one below it.
use Rattle.std.specs.Prelude.{◌≡◌, ◌≤◌, suc, List, [], ◌∷◌, Some, None}
use Rattle.asp_model.specs.Names.{Name}
use Rattle.asp_model.specs.Configuration.{Configuration}
use Rattle.asp_model.specs.Step.{step}
use Rattle.law_cuts.specs.Wants.{wanted}
use Rattle.law_cuts.specs.Searches.{Goal, made}

-- each of those below cannot step, and needs the one above it; the last is sought
abbrev pub IsChain : Goal → Configuration → Name → List Name → Type 0
IsChain g c x [] = x ≡ g.name
IsChain g c x (y ∷ ys) = (step (Some g.lists) c y ≡ None) × (wanted g.lists c y ≡ Some x) × IsChain g c y ys

-- after a step of one: it is the one that is sought, or that is not there yet and those below are as they were
abbrev pub IsChainUnder : Goal → Configuration → Name → List Name → Type 0
IsChainUnder g c x [] = x ≡ g.name
IsChainUnder g c x (y ∷ ys) = (suc (made c g.name) ≤ g.count) × IsChain g c y ys
