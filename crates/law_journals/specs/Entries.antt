-- The entries of a lawful journal are steps and deliveries.
use Rattle.std.specs.Prelude.{◌≡◌, ℕ, false, List, Some, None}
use Rattle.asp_model.specs.Names.{Name}
use Rattle.asp_model.specs.Term.{Tree}
use Rattle.asp_model.specs.Configuration.{Configuration, Activity}
use Rattle.asp_model.specs.Step.{step}
use Rattle.asp_model.specs.History.{EntryShape, program_history}
use Rattle.def_journals.specs.Communications.{communicates_next}
use Rattle.def_journals.specs.Journals.{RunShape, all_entered, run_of}
use Rattle.law_steps.specs.Reached.{IsReached, IsAt}
use Rattle.law_steps.specs.Sound.{IsSound}
use Rattle.law_steps.specs.Closed.{IsClosed}

-- where it begins with its program, the run of a lawful journal is reached by them
abbrev pub JournalsReach : Type 0
JournalsReach = (program : Tree) (budget : ℕ) (journal : List EntryShape) (s : RunShape)
    → run_of (program_history program budget journal) ≡ Some s → IsReached program s.configuration

-- so entries keep what moves keep, from any run on
abbrev pub EntriesKeepSound : Type 0
EntriesKeepSound = (entries : List EntryShape) (s t : RunShape) → all_entered entries s ≡ Some t
    → IsSound s.configuration → IsSound t.configuration

abbrev pub EntriesKeepClosed : Type 0
EntriesKeepClosed = (entries : List EntryShape) (s t : RunShape) → all_entered entries s ≡ Some t
    → IsClosed s.configuration → IsClosed t.configuration

-- a step that is no communication: nobody is made, sent to or answered, and nothing is served
pub record IsLocal (c d : Configuration) (n : Name) (a b : Activity) : Type 0 where
  pub here : IsAt c n a
  pub there : IsAt d n b
  pub received : d.received ≡ c.received
  pub logs : d.logs ≡ c.logs
  pub futures : d.futures ≡ c.futures
  pub services : b.services ≡ a.services
  pub present : b.present ≡ a.present
  pub served : b.served ≡ a.served
  pub sends : b.sends ≡ a.sends
  pub creations : b.creations ≡ a.creations

abbrev pub StepsAreLocal : Type 0
StepsAreLocal = (c d : Configuration) (n : Name) → step None c n ≡ Some d
    → communicates_next c n ≡ false → (a : Activity) × (b : Activity) × IsLocal c d n a b
