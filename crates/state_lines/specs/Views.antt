-- Which activity of a whole outcome a state is.
use Rattle.std.specs.Prelude.{◌≡◌, Option, Some, None}
use Rattle.future_table.specs.Values.{values_of}
use Rattle.def_paths.specs.Outcomes.{EndShape, WholeOutcome}
use Rattle.state_lines.specs.declared.state.State.{State}
use Rattle.state_lines.specs.States.{IsStateOf, IsTermOf}

-- what is read of it, over the outcome's futures
pub record IsSeenAs (o : WholeOutcome) (e : EndShape) (s : State) : Type 0 where
  pub state : IsStateOf s e.snapshot e.report.status
  pub term : IsTermOf s e.snapshot
  pub futures : values_of s.futures.now ≡ o.futures

-- there is none, or its state is read
abbrev pub IsSeen : WholeOutcome → Option EndShape → Option State → Type 0
IsSeen o None None = Unit {0}
IsSeen o (Some e) (Some s) = IsSeenAs o e s
IsSeen o e s = ⊥
