-- Contractions of an activity that needs no other.
use Rattle.std.specs.Prelude.{◌≡◌, ℕ, zero, suc, List, ◌++◌}
use Rattle.asp_model.specs.Term.{Tree}
use Rattle.asp_model.specs.Split.{Context, Redex, Splits, split, plug}
use Rattle.asp_model.specs.Store.{Store}
use Rattle.asp_model.specs.Contraction.{LineShape, Becomes, contract}
use Rattle.asp_model.specs.Configuration.{Activity}

-- one contraction
pub record IsLocalStep (a b : Activity) : Type 0 where
  pub contexts : List Context
  pub redex : Redex
  pub becomes : Tree
  pub store : Store
  pub added : List LineShape
  pub splits : split a.term ≡ Splits contexts redex
  pub is : contract a.store redex ≡ Becomes becomes store added
  pub after : b ≡ record a { term = plug contexts becomes; store = store; lines = a.lines ++ added; reductions = suc a.reductions }

-- so many contractions
abbrev pub LocalRun : ℕ → Activity → Activity → Type 0
LocalRun zero a b = a ≡ b
LocalRun (suc n) a b = (m : Activity) × IsLocalStep a m × LocalRun n m b
