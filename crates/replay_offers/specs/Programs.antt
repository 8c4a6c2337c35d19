-- A program that is run within a budget.
use Rattle.std.specs.Prelude.{◌≡◌, ◌≤◌, ℕ, [], List}
use Rattle.asp_model.specs.declared.limits.TheConstants.{MOST_REDUCTIONS}
use Rattle.asp_model.specs.Term.{Tree, locations}
use Rattle.code_table.specs.declared.code.Node.{Node}
use Rattle.replay_population.specs.Population.{term_of}

pub record Program : Type 0 where
  pub nodes : List Node
  pub budget : ℕ

-- the program that the nodes are
abbrev pub tree_in : Program → Tree
tree_in p = term_of p.nodes

-- it has no places, and the budget is one that a run may have
pub record IsRunnable (p : Program) : Type 0 where
  pub bare : locations (tree_in p) ≡ []
  pub within : p.budget ≤ MOST_REDUCTIONS
