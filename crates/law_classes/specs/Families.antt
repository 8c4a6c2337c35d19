-- Families of ended runs by classes, and when no run of the program lies outside of one.
use Rattle.std.specs.Prelude.{◌≡◌, ◌⊎◌, ◌&&◌, ◌==◌, ℕ, cond, List, [], ◌∷◌, ◌++◌, Some, take}
use Rattle.asp_model.specs.Names.{Name, Text, same_name}
use Rattle.asp_model.specs.Term.{Tree}
use Rattle.asp_model.specs.Configuration.{ReceptionShape, Configuration}
use Rattle.asp_model.specs.Intent.{Effect, Acts}
use Rattle.asp_model.specs.Step.{intent_in}
use Rattle.asp_model.specs.Status.{IsStuck}
use Rattle.law_steps.specs.Reached.{IsReached}
use Rattle.law_families.specs.Families.{ComesBehind}
use Rattle.law_classes.specs.Alike.{AsksInClass}
use Rattle.law_classes.specs.Runs.{ClassLogs, State, view, entry_of, with_entry, ClassStep, ClassRun, first_state}

-- a configuration and its logs by classes
abbrev pub ClassEnd : Type 0
ClassEnd = Configuration × ClassLogs

abbrev pub state_of : (Text → ℕ) → ClassEnd → State
state_of K x = (view K x.0, x.1)

-- each of the lists begins with its log
abbrev pub IsInside : (logs lists : ClassLogs) → Type 0
IsInside logs lists = (q : Name) (κ : ℕ) → (rest : List ReceptionShape) × (logs q κ ++ rest ≡ lists q κ)

-- a stuck run, in which whoever asked for labels asked in one class, and so does who stands there in the end
pub record IsClassEnd (K : Text → ℕ) (program : Tree) (x : ClassEnd) : Type 0 where
  pub reached : IsReached program x.0
  pub names : List Name
  pub run : ClassRun K program x.1 (first_state K program) names (state_of K x)
  pub stuck : IsStuck x.0
  pub asks : (n : Name) → AsksInClass K x.0 n

abbrev pub Has : List ClassEnd → ClassEnd → Type 0
Has [] x = ⊥
Has (y ∷ ys) x = (y ≡ x) ⊎ Has ys x

-- the lists, where that of one class of one activity ends after so many entries
abbrev pub cut_logs : ClassLogs → Name → ℕ → ℕ → ClassLogs
cut_logs lists p ν k q κ = cond (same_name q p && (κ == ν)) (take k (lists q κ)) (lists q κ)

-- a run under lists that has gone as far as it can
pub record IsFull (K : Text → ℕ) (program : Tree) (lists : ClassLogs) (f : ClassEnd) : Type 0 where
  pub reached : IsReached program f.0
  pub names : List Name
  pub run : ClassRun K program lists (first_state K program) names (state_of K f)
  pub rests : (n : Name) (w : State) → ClassStep K program lists n (state_of K f) w → ⊥

-- the lists of one of the ends begin with these logs
abbrev pub IsWithin : List ClassEnd → ClassLogs → Type 0
IsWithin ends logs = (x : ClassEnd) × Has ends x × IsInside logs x.1

-- somebody intends to enter this there
abbrev pub IsOffered : (Text → ℕ) → Configuration → Name → ℕ → ReceptionShape → Type 0
IsOffered K f q κ entry = (n : Name) × ((e : Effect) × (intent_in f n ≡ Acts e)
    × (entry_of K f n e ≡ Some (q, κ, entry)))

-- the run cut at this place of a log goes so far, and if the entry is offered there, an end begins so
abbrev pub IsClosedAt : (Text → ℕ) → Tree → List ClassEnd → ClassEnd → Name → ℕ → ℕ → ReceptionShape → Type 0
IsClosedAt K program ends x q κ k entry = (f : ClassEnd) × IsFull K program (cut_logs x.1 q κ k) f
    × (IsOffered K f.0 q κ entry → IsWithin ends (with_entry (Some (q, κ, entry)) f.1))

-- so it is for whatever comes later in the log of a class, behind another entry
abbrev pub IsClosed : (Text → ℕ) → Tree → List ClassEnd → Type 0
IsClosed K program ends = (x : ClassEnd) (q : Name) (κ k : ℕ) (entry : ReceptionShape)
    → Has ends x → ComesBehind (x.1 q κ) k entry → IsClosedAt K program ends x q κ k entry

-- ended runs of the program by classes, at least one, that are closed
pub record IsComplete (K : Text → ℕ) (program : Tree) (ends : List ClassEnd) : Type 0 where
  pub one : ClassEnd
  pub has : Has ends one
  pub ended : (x : ClassEnd) → Has ends x → IsClassEnd K program x
  pub closed : IsClosed K program ends
