-- Runs under lists by classes: for each activity and class, what came and was asked, in order.
use Rattle.std.specs.Prelude.{◌≡◌, ◌&&◌, ◌==◌, ℕ, cond, List, [], ◌∷◌, ◌++◌, Option, Some, None, length, true}
use Rattle.std.specs.FinMap.{find}
use Rattle.asp_model.specs.Names.{Name, Text, name_cmp, same_name}
use Rattle.asp_model.specs.Term.{Tree}
use Rattle.asp_model.specs.Chase.{Values}
use Rattle.asp_model.specs.Configuration.{RequestShape, ReceptionShape, Activity, Configuration, requests_of, start}
use Rattle.asp_model.specs.Intent.{Effect, Acts}
use Rattle.asp_model.specs.Step.{intent_in, may_log, reception_at, with_effect}
use Rattle.law_steps.specs.Reached.{IsReached}
use Rattle.law_steps.specs.Systems.{Leads}
use Rattle.law_services.specs.Correct.{bare_of}
use Rattle.law_classes.specs.Alike.{in_class, waiting, served_at, asked_at, class_of, AsksInClass}

-- a configuration, seen without the order between classes
pub record View : Type 0 where
  pub activities : Name → Option Activity
  pub futures : Values
  pub received : Name → ℕ → List RequestShape
  pub waits : Name → ℕ → List RequestShape

abbrev pub view : (Text → ℕ) → Configuration → View
view K c = record {
  activities = λ m. bare_of (find name_cmp m c.activities);
  futures = c.futures;
  received = λ m κ. in_class K κ (requests_of c m);
  waits = λ m κ. in_class K κ (waiting (served_at c m) 0 (requests_of c m));
}

-- for each class of each activity its log
abbrev pub ClassLogs : Type 0
ClassLogs = Name → ℕ → List ReceptionShape

-- one entry: where, of which class, and what
abbrev pub Entry : Type 0
Entry = Name × ℕ × ReceptionShape

-- a request is entered in the class of its label, a poll in that of the labels that it asks for
abbrev pub entered : (Text → ℕ) → List Text
    → Option (Name × RequestShape) → Option (Name × ReceptionShape) → Option Entry
entered K ls o None = None
entered K ls None (Some x) = Some (x.0, class_of K ls, x.1)
entered K ls (Some z) (Some x) = Some (x.0, K z.1.label, x.1)

-- what an effect of an activity enters
abbrev pub entry_of : (Text → ℕ) → Configuration → Name → Effect → Option Entry
entry_of K c n e = entered K (asked_at c n) e.sent e.logged

-- the logs with one entry more
abbrev pub with_entry : Option Entry → ClassLogs → ClassLogs
with_entry None logs = logs
with_entry (Some x) logs = λ q κ. cond (same_name q x.0 && (κ == x.1)) (logs q κ ++ x.2 ∷ []) (logs q κ)

-- the entry is next in the lists
abbrev pub IsTurn : (lists logs : ClassLogs) → Option Entry → Type 0
IsTurn lists logs None = Unit {0}
IsTurn lists logs (Some x) = reception_at (lists x.0 x.1) (length (logs x.0 x.1)) ≡ Some x.2

-- a view and its logs by classes
abbrev pub State : Type 0
State = View × ClassLogs

-- a step of an activity that asks in a class, where what it enters is next in the lists
pub record ClassStep (K : Text → ℕ) (program : Tree) (lists : ClassLogs) (n : Name) (v w : State) : Type 0 where
  pub at : Configuration
  pub effect : Effect
  pub reached : IsReached program at
  pub is : view K at ≡ v.0
  pub intends : intent_in at n ≡ Acts effect
  pub may : may_log None at effect.logged ≡ true
  pub turn : IsTurn lists v.1 (entry_of K at n effect)
  pub asks : AsksInClass K at n
  pub then : view K (with_effect n effect at) ≡ w.0
  pub enters : with_entry (entry_of K at n effect) v.1 ≡ w.1

-- steps under lists by classes lead from one state to another
abbrev pub ClassRun : (Text → ℕ) → Tree → ClassLogs → State → List Name → State → Type 0
ClassRun K program lists = Leads (ClassStep K program lists)

-- the start, with empty logs
abbrev pub first_state : (Text → ℕ) → Tree → State
first_state K program = (view K (start program), λ q κ. [])
