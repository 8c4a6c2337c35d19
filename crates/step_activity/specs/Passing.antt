-- How many members of a group an activity that waits for them has passed.
use Rattle.std.specs.Prelude.{◌≡◌, ℕ, List, [], ◌∷◌}
use Rattle.asp_model.specs.Names.{FutureShape}
use Rattle.asp_model.specs.Chase.{Chase}
use Rattle.asp_model.specs.Configuration.{Activity, RequestShape}
use Rattle.asp_model.specs.Split.{Context, Splits, split}
use Rattle.asp_model.specs.Store.{cell}
use Rattle.asp_model.specs.Term.{WaitAll}
use Rattle.step_rows.specs.Decisions.{value_redex}
use Rattle.step_reads.specs.Passed.{members_passed}
use Rattle.step_activity.specs.declared.actor.Actor.{Actor}
use Rattle.step_activity.specs.Actors.{Stands}

-- where it waits for the members of a group, the first so many have values
abbrev pub HasPassed : (FutureShape → Chase) → Activity → ℕ → Type 0
HasPassed chases a k = (cs : List Context) (i : ℕ) → split a.term ≡ Splits cs (value_redex WaitAll (i ∷ [])) → members_passed chases a.store (cell a.store i) k

-- the actor stands for one that has
pub record IsPassedFor (chases : FutureShape → Chase) (x : Actor) (k : ℕ) : Type 0 where
  pub activity : Activity
  pub received : List RequestShape
  pub stands : Stands x activity received
  pub passed : HasPassed chases activity k
