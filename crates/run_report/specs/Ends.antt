-- The lines of the activity with a number.
use Rattle.std.specs.Prelude.{ℕ, List, [], Option, Some, None, slice_get}
use Rattle.def_paths.specs.Outcomes.{WholeOutcome, lines_to, end_lines}

-- what f gives of one, where there is one
abbrev pub if_there : {X : Type 0} → (X → List (List ℕ)) → Option X → List (List ℕ)
if_there f None = []
if_there f (Some x) = f x

-- those of its state
abbrev pub states_at : Option ℕ → WholeOutcome → ℕ → List (List ℕ)
states_at depth o n = if_there (lines_to depth o.futures) (slice_get o.ends n)

-- all its lines
abbrev pub lines_at : Option ℕ → WholeOutcome → ℕ → List (List ℕ)
lines_at depth o n = if_there (end_lines depth o.futures) (slice_get o.ends n)
