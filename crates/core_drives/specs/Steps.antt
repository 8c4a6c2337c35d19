-- Lists of steps, and the journals to which they lead.
use Rattle.std.specs.Prelude.{◌≡◌, ◌==◌, ◌&&◌, ◌||◌, ℕ, Bool, true, false, not}
use Rattle.std.specs.Prelude.{List, [], ◌∷◌, Option, Some, None, is_some}
use Rattle.asp_model.specs.Configuration.{Activity}
use Rattle.asp_model.specs.History.{Committed, Delivered, DeliveryShape, EntryShape, HistoryShape, Lent, with_entry}
use Rattle.asp_model.specs.Names.{Name}
use Rattle.asp_model.specs.Shapes.{delivery_shape}
use Rattle.def_journals.specs.Journals.{RunShape, delivered, grant_of, run_of}
use Rattle.law_core.specs.Runs.{is_ready}
use Rattle.law_core.specs.Commits.{HasRun}
use Rattle.core_state.specs.Arrivals.{act_at}
use Rattle.asp_core.specs.Runs.{counted}
use Rattle.asp_core.specs.Stopping.{StopsAt}
use Rattle.core_drives.specs.declared.steps.Step.{Step}
use Rattle.core_drives.specs.declared.steps.Step.TheVariants as step

pub data StepShape : Type 0 where
  Lends : (k : ℕ) → StepShape
  Runs : (k : ℕ) → StepShape
  Commits : (k : ℕ) → StepShape
  Delivers : (d : DeliveryShape) → StepShape

abbrev pub step_shape : Step → StepShape
step_shape (step.Lend k) = Lends k
step_shape (step.Local k) = Runs k
step_shape (step.Commit k) = Commits k
step_shape (step.Deliver d) = Delivers (delivery_shape d)

-- Which leases ran

abbrev pub nobody : ℕ → Bool
nobody k = false

-- since it was to be lent
abbrev pub ran_after : StepShape → (ℕ → Bool) → ℕ → Bool
ran_after (Lends k) ran j = not (j == k) && ran j
ran_after (Runs k) ran j = (j == k) || ran j
ran_after (Commits k) ran j = ran j
ran_after (Delivers d) ran j = ran j

-- What steps enter

-- one entry more where a condition holds, and else nothing
abbrev pub entered_if : Bool → EntryShape → HistoryShape → HistoryShape
entered_if true x h = with_entry h x
entered_if false x h = h

-- Who is out comes in with the contractions that its lease took, up to where it stops if it ran; and with the
-- communication at which it stands then, where that may be done and one of the grant is left. Nothing changes where
-- nobody is out.
abbrev pub ComesIn : RunShape → ℕ → (ran : Bool) → (grant : Option ℕ) → (old new : HistoryShape) → Type 0
ComesIn s k ran None old new = new ≡ old
ComesIn s k ran (Some grant) old new = (n : Name) × (taken : ℕ) × (end : Activity) × HasRun s k grant n taken end
    × (ran ≡ true → StopsAt taken grant end)
    × (new ≡ with_entry old (Committed k (counted taken (act_at s n grant taken end))))

-- what a step enters in this run
abbrev pub Enters : RunShape → StepShape → (ran : ℕ → Bool) → (old new : HistoryShape) → Type 0
Enters s (Lends k) ran old new = new ≡ entered_if (is_ready s k) (Lent k) old
Enters s (Runs k) ran old new = new ≡ old
Enters s (Commits k) ran old new = ComesIn s k (ran k) (grant_of k s.out) old new
Enters s (Delivers d) ran old new = new ≡ entered_if (is_some (delivered d s)) (Delivered d) old

-- a step in the run of a history, once these leases ran
pub record IsStepped (x : StepShape) (ran : ℕ → Bool) (old new : HistoryShape) : Type 0 where
  pub run : RunShape
  pub lawful : run_of old ≡ Some run
  pub enters : Enters run x ran old new

-- steps, in their order
abbrev pub Lead : List StepShape → (ran : ℕ → Bool) → (old new : HistoryShape) → Type 0
Lead [] ran old new = new ≡ old
Lead (x ∷ xs) ran old new = (mid : HistoryShape) × IsStepped x ran old mid × Lead xs (ran_after x ran) mid new
