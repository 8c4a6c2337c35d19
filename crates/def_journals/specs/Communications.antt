-- Which reductions are communications: those that create, send, serve, poll, or end a service.
use Rattle.std.specs.Prelude.{Bool, true, false, Some, None, is_some}
use Rattle.std.specs.FinMap.{find}
use Rattle.asp_model.specs.Names.{Name, FutureShape, name_cmp}
use Rattle.asp_model.specs.Split.{Stands, Splits, split}
use Rattle.asp_model.specs.Contraction.{Contraction, Becomes, Faults, Needs, Communicates, Breaks, contract}
use Rattle.asp_model.specs.Chase.{Chase, chase}
use Rattle.asp_model.specs.Configuration.{Activity, Configuration}
use Rattle.asp_model.specs.Intent.{Reads, Lacks, redex_ready, newest}

-- what a redex comes to is a communication
abbrev pub is_asking : Contraction → Bool
is_asking (Communicates x) = true
is_asking (Becomes t store lines) = false
is_asking (Faults fault) = false
is_asking (Needs place) = false
is_asking Breaks = false

-- what an activity intends, where it acts, is a communication
abbrev pub is_communication : (FutureShape → Chase) → Activity → Bool
is_communication chases a = elim (split a.term) [
  | Stands place ↦ is_some (newest a.services)
  | Splits contexts redex ↦ elim (redex_ready chases a.store redex) [
    | Lacks f ↦ false
    | Reads s ↦ is_asking (contract s redex)
  ]
]

-- the next step of an activity of a configuration is a communication; without such an activity, or where it cannot
-- step, none is
abbrev pub communicates_next : Configuration → Name → Bool
communicates_next c n = elim (find name_cmp n c.activities) [ None ↦ false | Some a ↦ is_communication (chase c.futures) a ]
