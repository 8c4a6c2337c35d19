-- Pending requests under the numbers behind those that were served.
use Rattle.std.specs.Prelude.{◌≡◌, ℕ, suc, ◌+◌, List, [], ◌∷◌, ◌++◌, length}
use Rattle.std.specs.Arc.{arc_value}
use Rattle.std.specs.List.{AllByRecursion}
use Rattle.asp_model.specs.Configuration.{RequestShape}
use Rattle.asp_model.specs.Intent.{Numbered}
use Rattle.code_table.specs.declared.code.Node.{Node}
use Rattle.request_queue.specs.Pending.{QueueView, waiting}

-- these requests, the first under this number
abbrev pub numbered : ℕ → List RequestShape → List Numbered
numbered k [] = []
numbered k (r ∷ rs) = (k, r) ∷ numbered (suc k) rs

-- a queue of this code in which these wait, behind so many that were served
pub record IsBehind (k : List Node) (answered : ℕ) (rs : List RequestShape) (q : QueueView) : Type 0 where
  pub pending : waiting q ≡ numbered answered rs
  pub arrived : q.arrived ≡ answered + length rs
  pub coded : AllByRecursion (λ e. arc_value e.1.arguments.code ≡ k) q.pending

-- one more request of this code waits, under the next number
pub record IsPushedBy (k : List Node) (old new : QueueView) (r : RequestShape) : Type 0 where
  pub pending : waiting new ≡ waiting old ++ (old.arrived, r) ∷ []
  pub arrived : new.arrived ≡ old.arrived + 1
  pub coded : AllByRecursion (λ e. arc_value e.1.arguments.code ≡ k) old.pending
      → AllByRecursion (λ e. arc_value e.1.arguments.code ≡ k) new.pending
