-- A search on demand: whom it has come to, and who is below it.
use Rattle.std.specs.Prelude.{◌≡◌, ◌≤◌, ◌+◌, ◌*◌, ℕ, suc, Bool, true, false, List, [], ◌∷◌, Some, length, reverse}
use Rattle.asp_model.specs.Names.{Name}
use Rattle.asp_model.specs.Term.{Tree, locations}
use Rattle.asp_model.specs.Configuration.{Activity, Configuration, start}
use Rattle.asp_model.specs.Replay.{CountsShape, Fits, count_in, replay, total}
use Rattle.asp_model.specs.Shapes.{counts_shape, lists_shape}
use Rattle.asp_model.specs.declared.outcome.Counts.{Counts}
use Rattle.asp_model.specs.declared.outcome.Lists.{Lists}
use Rattle.def_journals.specs.Journals.{number_of}
use Rattle.law_steps.specs.Reached.{IsAt}
use Rattle.law_cuts.specs.Searches.{Goal, IsOnWay, made}
use Rattle.run_waits.specs.Targets.{AreTold}
use Rattle.run_waits.specs.declared.receipts.Receipts.{Receipts}
use Rattle.replay_population.specs.Population.{IsPopulation}
use Rattle.replay_parts.specs.Roster.{Leads}
use Rattle.replay_population.specs.declared.population.Population.{Population}
use Rattle.run_waits.specs.Chains.{IsChain, IsChainUnder}
use Rattle.run_waits.specs.Entries.{names_in}
use Rattle.run_waits.specs.declared.cuts.search.Search.{Search}

abbrev pub goal_of : Tree → Lists → Name → ℕ → Goal
goal_of program lists n k = record { program = program; lists = lists_shape lists; name = n; count = k }

-- what is sought is there: it is below logs and counts that fit, and where their requests went is told
pub record IsSought (g : Goal) (counts : CountsShape) (receipts : Receipts) : Type 0 where
  pub fits : Fits g.program g.lists counts
  pub there : g.count ≤ count_in counts g.name
  pub told : AreTold (replay g.program g.lists counts) receipts

-- these numbers are of these names
abbrev pub AreNumbered : List Name → List Name → List ℕ → Type 0
AreNumbered ns [] [] = Unit {0}
AreNumbered ns (x ∷ xs) (k ∷ ks) = (number_of x ns ≡ Some k) × AreNumbered ns xs ks
AreNumbered ns xs ks = ⊥

-- the population stands for a point on the way
pub record IsAtPoint (g : Goal) (lists : Lists) (p : Population) (c : Configuration) : Type 0 where
  pub bare : locations g.program ≡ []
  pub way : IsOnWay g c
  pub population : IsPopulation p c
  pub numbered : Leads (names_in lists) p.roster

-- and one is needed whom the search has come to, after at most so many turns
pub record IsSearching (g : Goal) (lists : Lists) (s : Search) (turns : ℕ) : Type 0 where
  pub point : Configuration
  pub at : IsAtPoint g lists s.population point
  pub less : suc (made point g.name) ≤ g.count
  pub top : Name
  pub below : List Name
  pub chain : IsChain g point top below
  pub named : AreNumbered s.population.roster (top ∷ below) (s.top ∷ reverse s.below.items)
  pub few : turns ≤ 2 * length at.way.names + length below

-- the one that it had come to has stepped
pub record IsStepped (g : Goal) (lists : Lists) (s : Search) (turns : ℕ) : Type 0 where
  pub point : Configuration
  pub at : IsAtPoint g lists s.population point
  pub top : Name
  pub below : List Name
  pub activity : Activity
  pub there : IsAt point top activity
  pub chain : IsChainUnder g point top below
  pub named : AreNumbered s.population.roster (top ∷ below) (s.top ∷ reverse s.below.items)
  pub few : suc (suc turns) ≤ 2 * length at.way.names + length below

-- the population stands for a point on the way that is there
abbrev pub IsFound : Goal → Population → Type 0
IsFound g p = (c : Configuration) × IsOnWay g c × (g.count ≤ made c g.name) × IsPopulation p c

-- it is found, or the search goes on
abbrev pub IsSearched : Goal → Lists → Bool → Search → ℕ → Type 0
IsSearched g lists true s turns = IsFound g s.population
IsSearched g lists false s turns = IsSearching g lists s turns

-- such a search goes on
abbrev pub IsSearchingSome : Lists → Receipts → ℕ → Search → Type 0
IsSearchingSome lists receipts k s = (program : Tree) × (n : Name) × (counts : CountsShape) × (turns : ℕ)
    × IsSought (goal_of program lists n k) counts receipts × IsSearching (goal_of program lists n k) lists s turns

-- such a search begins, and may take so many turns
abbrev pub IsBegunSome : Lists → Receipts → ℕ → ℕ → Search → Type 0
IsBegunSome lists receipts k turns s = (program : Tree) × (n : Name) × (counts : CountsShape)
    × (2 * total counts ≤ turns) × IsSought (goal_of program lists n k) counts receipts
    × IsSearching (goal_of program lists n k) lists s 0

-- the program's start, where the number is that of n
pub record IsStart (program : Tree) (lists : Lists) (n : Name) (number : ℕ) (p : Population) : Type 0 where
  pub bare : locations program ≡ []
  pub population : IsPopulation p (start program)
  pub numbered : Leads (names_in lists) p.roster
  pub named : number_of n p.roster ≡ Some number

abbrev pub IsStartSome : Lists → Counts → Receipts → ℕ → ℕ → Population → Type 0
IsStartSome lists counts receipts number k p = (program : Tree) × (n : Name)
    × IsSought (goal_of program lists n k) (counts_shape counts) receipts × IsStart program lists n number p
