-- The reductions of a commit that is redone, one after another.
use Rattle.std.specs.Prelude.{◌≡◌, ◌<◌, ◌++◌, ℕ, Bool, true, false, List, Option, Some, None, is_some}
use Rattle.std.specs.FinMap.{find}
use Rattle.asp_model.specs.Names.{Name, name_cmp}
use Rattle.asp_model.specs.Term.{Tree}
use Rattle.asp_model.specs.Configuration.{Configuration}
use Rattle.def_journals.specs.Journals.{newcomers, reduced}
use Rattle.replay_population.specs.declared.population.Population.{Population}
use Rattle.replay_population.specs.Reached.{IsReachedPopulation}
use Rattle.journal_runs.specs.Stepping.{IsReducing}

-- the same activities are there
abbrev pub SameThere : Configuration → Configuration → Type 0
SameThere c d = (m : Name) → is_some (find name_cmp m d.activities) ≡ is_some (find name_cmp m c.activities)

-- on the way of so many reductions from a configuration: those that are left lead from here where all
-- of them lead, and nobody was made while some are left
pub record IsOnTheWay (p : Population) (program : Tree) (ns : List Name) (c : Configuration) (number : ℕ)
    (n : Name) (r left : ℕ) : Type 0 where
  pub here : Configuration
  pub reducing : IsReducing p program here number n
  pub names : p.roster ≡ ns ++ newcomers c here
  pub same : 0 < left → SameThere c here
  pub leads : reduced left n here ≡ reduced r n c

-- some were taken, and so many are left; or they cannot be taken
abbrev pub IsAdvanced : Population → Tree → List Name → Configuration → ℕ → Name → ℕ → Option ℕ → Type 0
IsAdvanced p program ns c number n r (Some left) = IsOnTheWay p program ns c number n r left × (left < r)
IsAdvanced p program ns c number n r None = reduced r n c ≡ None

-- all were taken, and newcomers have the next numbers; or they cannot be taken
abbrev pub IsReduced : Population → Tree → List Name → Configuration → Option Configuration → Bool → Type 0
IsReduced p program ns c (Some d) true = IsReachedPopulation p program d × (p.roster ≡ ns ++ newcomers c d)
IsReduced p program ns c None false = Unit {0}
IsReduced p program ns c o b = ⊥
