-- What a survey of ends has counted, and what was told: for private functions alone.
use Rattle.std.specs.Prelude.{◌≡◌, ◌⊎◌, ◌+◌, ◌-◌, ℕ, List, [], ◌∷◌, Option, Some, None, true}
use Rattle.std.specs.Prelude.{cond, is_ok, length, map, max, nat_lt, option_map, slice_get}
use Rattle.asp_model.specs.Term.{Tree}
use Rattle.asp_model.specs.Outcome.{exit_status, outcome_of}
use Rattle.asp_model.specs.Names.{Text}
use Rattle.asp_model.specs.Step.{ListsShape}
use Rattle.asp_model.specs.Replay.{CountsShape, total}
use Rattle.asp_edge.specs.Told.{Asks}
use Rattle.def_paths.specs.Outcomes.{whole_outcome_of}
use Rattle.law_families.specs.Families.{RunLogs}
use Rattle.asp_model.specs.Configuration.{Configuration}
use Rattle.asp_top.specs.Correct.{report_at}
use Rattle.asp_top.specs.Refusals.{NoMemory, message_of, status_of_refusal}
use Rattle.asp_top.specs.declared.stop.Stop.{Stop}
use Rattle.asp_top.specs.Programs.{IsInFile}
use Rattle.asp_top.specs.Stops.{RefusedInFile, refusal_of}
use Rattle.asp_model.specs.Marked.{Marked, plain}
use Rattle.outcomes_words.specs.Words.{TaskShape}
use Rattle.outcomes_words.specs.declared.task.Choice.{Choice}
use Rattle.outcomes_words.specs.declared.task.Choice.TheVariants as choices
use Rattle.asp_top.specs.Seen.{Asked, Outside, Sight, Takes, TakesFront}
use Rattle.outcomes_text.specs.Outcomes.{Outcome, outcomes_among, text_seen, with_end}
use Rattle.outcomes_text.specs.Tallies.{AreWithin}
use Rattle.outcomes_top.specs.declared.halt.Halt.{Halt}
use Rattle.outcomes_top.specs.declared.halt.Halt.TheVariants as halts
use Rattle.outcomes_top.specs.declared.survey.Survey.{Survey}
use Rattle.outcomes_top.specs.Correct.{AreInOrders, Found, Tells}
use Rattle.outcomes_top.specs.Endings.{HasFewer, HaveFewer, IsCause, missing_line, usage_line}
use Rattle.outcomes_top.specs.Given.{IsNoEnd, IsRefused, RefusedAmong, message_of_fault, status_of_fault}
use Rattle.outcome_search.specs.Ends.{AreReplayableEnds, run_logs}
use Rattle.replay_offers.specs.Programs.{tree_in}
use Rattle.outcomes_top.specs.declared.family.Family.{Family}
use Rattle.outcomes_top.specs.Families.{IsFamily, end_of, longest_of, seen_of, worst_of}

-- it is one of these ends
pub record IsSurvey (depth : Option ℕ) (program : Tree) (ends : List RunLogs) (s : Survey) : Type 0 where
  pub tally : s.tally ≡ outcomes_among (seen_of depth program ends)
  pub within : AreWithin (length ends) s.tally
  pub longest : s.longest ≡ longest_of ends
  pub worst : s.worst ≡ worst_of program ends

-- they are ended runs of the program that can be replayed, and all there are where it is said so
pub record IsFamilyOf (program : Tree) (f : Family) : Type 0 where
  pub tree : tree_in f.runs ≡ program
  pub ends : AreReplayableEnds program (map run_logs f.ends.items)
  pub family : IsFamily program f.by_classes f.whole (map run_logs f.ends.items)

-- it has one end more, of this number
pub record IsOneMore (depth : Option ℕ) (program : Tree) (number : ℕ) (x : RunLogs) (old new : Survey) : Type 0 where
  pub tally : new.tally ≡ with_end number (text_seen depth (whole_outcome_of (end_of program x))) old.tally
  pub within : AreWithin (number + 1) new.tally
  pub longest : new.longest ≡ max old.longest (total x.1)
  pub worst : new.worst ≡ max old.worst (exit_status (outcome_of (end_of program x)))

-- the place, if there are more
abbrev pub some_below : (place count : ℕ) → Option ℕ
some_below place count = cond (nat_lt place count) (Some place) None

-- where the end that is chosen stands, of so many with these outcomes
abbrev pub place_in : List Outcome → (count : ℕ) → Choice → Option ℕ
place_in outcomes count (choices.Outcome number) = option_map (λ o. o.first) (slice_get outcomes (number - 1))
place_in outcomes count (choices.End number) = some_below (number - 1) count

-- the text and the status are those of a report of this configuration
abbrev pub IsReportOf : Option ℕ → Configuration → List ℕ → ℕ → Type 0
IsReportOf depth c text status = (text ≡ report_at depth c) × (status ≡ exit_status (outcome_of c))

-- Files that were read

-- these were asked for in turn, and each had its bytes
abbrev pub AreRead : List Text → Asks → Type 0
AreRead [] [] = Unit {0}
AreRead (name ∷ names) (ask ∷ asks) = (ask.0 ≡ name) × (is_ok ask.1 ≡ true) × AreRead names asks
AreRead names asks = ⊥

-- these were asked for in the call, and nothing else, and each had its bytes
pub record ReadsAll (o : Outside) (names : List Text) : Type 0 where
  pub asks : Asks
  pub asked : Asked o asks
  pub read : AreRead names asks

-- the ends are those given, where files are named for them
abbrev pub AreChosen : List Text → List RunLogs → List RunLogs → Type 0
AreChosen [] given ends = Unit {0}
AreChosen (name ∷ names) given ends = ends ≡ given

-- they are found as the task asks, or given where it names files for them
pub record IsChosen (task : TaskShape) (program : Tree) (given : List RunLogs) (f : Found program) : Type 0 where
  pub ends : AreChosen task.given given f.ends
  pub orders : AreInOrders task f.by_classes

-- of such ends
abbrev pub TellsOf : TaskShape → Tree → List RunLogs → List ℕ → ℕ → Type 0
TellsOf task program given text status = (f : Found program) × IsChosen task program given f
    × Tells task.depth program f.whole f.ends task.choice text status

-- Why nothing is told

abbrev pub message_for : Halt → List ℕ
message_for halts.Usage = usage_line
message_for (halts.Stop s) = message_of (refusal_of s)
message_for (halts.Given name fault) = message_of_fault name.now fault
message_for (halts.Missing choice) = missing_line choice

abbrev pub status_for : Halt → ℕ
status_for halts.Usage = 2
status_for (halts.Stop s) = status_of_refusal (refusal_of s)
status_for (halts.Given name fault) = status_of_fault fault
status_for (halts.Missing choice) = 2

-- it has its cause
abbrev pub Halts : List (List ℕ) → Outside → Halt → Type 0
Halts words o h = IsCause words o (message_for h) (status_for h)

-- of ends: they, or their outcomes, are fewer than the number of the choice, or memory ran out
abbrev pub HaltsOne : Option ℕ → Tree → List RunLogs → Choice → Halt → Type 0
HaltsOne depth program ends choice halts.Usage = ⊥
HaltsOne depth program ends choice (halts.Stop s) = refusal_of s ≡ NoMemory
HaltsOne depth program ends choice (halts.Given name fault) = ⊥
HaltsOne depth program ends choice (halts.Missing other) = (other ≡ choice) × HaveFewer depth program ends choice

-- of a program with the given ends: the same of those that were chosen
abbrev pub HaltsAt : TaskShape → Tree → List RunLogs → Halt → Type 0
HaltsAt task program given halts.Usage = ⊥
HaltsAt task program given (halts.Stop s) = refusal_of s ≡ NoMemory
HaltsAt task program given (halts.Given name fault) = ⊥
HaltsAt task program given (halts.Missing choice) = (task.choice ≡ Some choice)
    × (f : Found program) × IsChosen task program given f × HaveFewer task.depth program f.ends choice

-- of logs and counts that the file of this name has: they are no end of the program, or memory ran out
abbrev pub HaltsReplay : Tree → ListsShape → CountsShape → Text → Halt → Type 0
HaltsReplay program lists counts name halts.Usage = ⊥
HaltsReplay program lists counts name (halts.Stop s) = refusal_of s ≡ NoMemory
HaltsReplay program lists counts name (halts.Given other fault) =
    (name ≡ other.now) × IsNoEnd program lists counts fault
HaltsReplay program lists counts name (halts.Missing choice) = ⊥

-- of the file of this name, which is asked for at this place: it is refused, or memory ran out
abbrev pub HaltsIn : Outside → ℕ → Tree → Text → Halt → Type 0
HaltsIn o place program name halts.Usage = ⊥
HaltsIn o place program name (halts.Stop s) = refusal_of s ≡ NoMemory
HaltsIn o place program name (halts.Given other fault) = (name ≡ other.now) × IsRefused o place program name fault
HaltsIn o place program name (halts.Missing choice) = ⊥

-- of files, the first of which is asked for at this place: one of them is refused, or memory ran out
abbrev pub HaltsAmong : Outside → ℕ → Tree → List Text → Halt → Type 0
HaltsAmong o place program names halts.Usage = ⊥
HaltsAmong o place program names (halts.Stop s) = refusal_of s ≡ NoMemory
HaltsAmong o place program names (halts.Given name fault) = RefusedAmong o place program names name.now fault
HaltsAmong o place program names (halts.Missing choice) = ⊥

-- of a program in the file of a task: one of the given reports is refused, the ends or their outcomes are fewer than
-- the number of the choice, or memory ran out
abbrev pub HaltsWith : Outside → TaskShape → Tree → Halt → Type 0
HaltsWith o task program halts.Usage = ⊥
HaltsWith o task program (halts.Stop s) = refusal_of s ≡ NoMemory
HaltsWith o task program (halts.Given name fault) = RefusedAmong o 1 program task.given name.now fault
HaltsWith o task program (halts.Missing choice) = (task.choice ≡ Some choice) × HasFewer o task program choice

-- of a task: the file has no checked program, or one of these holds
abbrev pub HaltsFor : Outside → TaskShape → Halt → Type 0
HaltsFor o task h = ((s : Stop) × (h ≡ halts.Stop s) × RefusedInFile o task.file (refusal_of s))
    ⊎ ((program : Marked) × IsInFile o task.file program × HaltsWith o task (plain program) h)

-- a message was told and this status answered, or the sink failed
abbrev pub IsToldBy : Sight → List ℕ → ℕ → ℕ → Type 0
IsToldBy s text status result = ((result ≡ status) × Takes s text) ⊎ ((result ≡ 7) × TakesFront s text)

-- that was told, or that there is no memory for its message
abbrev pub IsToldOr : (message : List ℕ) (status : ℕ) → Sight → ℕ → Type 0
IsToldOr message status s result = IsToldBy s message status result
    ⊎ IsToldBy s (message_of NoMemory) (status_of_refusal NoMemory) result

abbrev pub IsToldOf : Halt → Sight → ℕ → Type 0
IsToldOf h s result = IsToldOr (message_for h) (status_for h) s result
