-- Logs that are cut or lengthened, and counts.
use Rattle.std.specs.Prelude.{ℕ, List, [], ◌∷◌, ◌++◌, cond, map, take}
use Rattle.asp_model.specs.Names.{Name, same_name}
use Rattle.asp_model.specs.Configuration.{ReceptionShape}
use Rattle.asp_model.specs.Step.{ListsShape}
use Rattle.asp_model.specs.Replay.{CountsShape}

-- the log of n, of which k entries are kept where n is q
abbrev pub log_cut : Name → ℕ → Name → List ReceptionShape → List ReceptionShape
log_cut q k n log = cond (same_name q n) (take k log) log

abbrev pub each_cut : Name → ℕ → ListsShape → ListsShape
each_cut q k = map (λ x. (x.0, log_cut q k x.0 x.1))

-- the log of n, with an entry more where n is q
abbrev pub log_entered : Name → ReceptionShape → Name → List ReceptionShape → List ReceptionShape
log_entered q entry n log = cond (same_name q n) (log ++ entry ∷ []) log

abbrev pub each_entered : Name → ReceptionShape → ListsShape → ListsShape
each_entered q entry = map (λ x. (x.0, log_entered q entry x.0 x.1))

-- one count for all
abbrev pub even : {X : Type 0} → ℕ → List (Name × X) → CountsShape
even count = map (λ x. (x.0, count))
