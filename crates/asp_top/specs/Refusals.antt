-- Why a call writes no text, with the status and the message of each refusal.
use Rattle.std.specs.Prelude.{ℕ, ◌+◌, List, ◌++◌, codes}
use Rattle.std.specs.Fmt.{decimal}
use Rattle.asp_model.specs.Names.{Name}
use Rattle.asp_model.specs.Report.{name_text, with_feed}
use Rattle.asp_syntax.specs.declared.error.SyntaxKind.{SyntaxKind}
use Rattle.asp_syntax.specs.declared.error.SyntaxKind.TheVariants.{BadByte, BadNumber, Unexpected, TooDeep, NotAField}
use Rattle.asp_syntax.specs.declared.error.SyntaxFault.{SyntaxFault}
use Rattle.asp_check.specs.declared.fault.CheckKind.{CheckKind}
use Rattle.asp_check.specs.declared.fault.CheckKind.TheVariants.{Unbound, DoubleLabel, DoubleParameter, TooManyParameters, Arity, ServiceArity}
use Rattle.asp_check.specs.declared.fault.CheckFault.{CheckFault}
use Rattle.asp_top.specs.declared.stop.Which.{Which}
use Rattle.asp_top.specs.declared.stop.Which.TheVariants.{First, Second}

pub data Refusal : Type 0 where
  Usage : Refusal
  Unread : (name : List ℕ) → Refusal
  LongProgram : Refusal
  NoProgram : (fault : SyntaxFault) → Refusal
  Unchecked : (fault : CheckFault) → Refusal
  -- one of the reports
  LongReport : (which : Which) → Refusal
  -- by its first line that cannot stand in its place
  NoReport : (which : Which) (line : ℕ) → Refusal
  Diverges : (which : Which) (activity : Name) → Refusal
  LongTrace : Refusal
  -- the trace, by its first line that cannot stand in its place
  NoTrace : (line : ℕ) → Refusal
  -- by the number, from 1, of its first entry that is not lawful
  Unlawful : (entry : ℕ) → Refusal
  Unfinished : Refusal
  LongCheckpoint : Refusal
  -- the checkpoint is one of another program
  OtherCheckpoint : Refusal
  -- it is none, or no run can go on from it
  NoCheckpoint : Refusal
  -- it has counted too many reductions for the budget
  Overspent : Refusal
  NoMemory : Refusal

abbrev pub status_of_refusal : Refusal → ℕ
status_of_refusal Usage = 2
status_of_refusal (Unread name) = 6
status_of_refusal LongProgram = 3
status_of_refusal (NoProgram fault) = 3
status_of_refusal (Unchecked fault) = 3
status_of_refusal (LongReport which) = 9
status_of_refusal (NoReport which line) = 9
status_of_refusal (Diverges which activity) = 9
status_of_refusal LongTrace = 10
status_of_refusal (NoTrace line) = 10
status_of_refusal (Unlawful entry) = 10
status_of_refusal Unfinished = 10
status_of_refusal LongCheckpoint = 11
status_of_refusal OtherCheckpoint = 11
status_of_refusal NoCheckpoint = 11
status_of_refusal Overspent = 11
status_of_refusal NoMemory = 8

abbrev pub kind_text : SyntaxKind → List ℕ
kind_text BadByte = codes "BadByte"
kind_text BadNumber = codes "BadNumber"
kind_text Unexpected = codes "Unexpected"
kind_text TooDeep = codes "TooDeep"
kind_text NotAField = codes "NotAField"

abbrev pub check_text : CheckKind → List ℕ
check_text Unbound = codes "Unbound"
check_text DoubleLabel = codes "DoubleLabel"
check_text DoubleParameter = codes "DoubleParameter"
check_text TooManyParameters = codes "TooManyParameters"
check_text Arity = codes "Arity"
check_text ServiceArity = codes "ServiceArity"

-- a kind of fault, and its place
abbrev pub fault_line : List ℕ → ℕ → List ℕ
fault_line kind at = with_feed (codes "asp: program: " ++ kind ++ codes " at " ++ decimal at)

-- the option that names a report
abbrev pub option_text : Which → List ℕ
option_text First = codes "replay"
option_text Second = codes "same"

-- why a report or a trace is refused, by its option

abbrev pub long_line : List ℕ → List ℕ
long_line option = with_feed (codes "asp: " ++ option ++ codes ": longer than 16777216 bytes")

abbrev pub bad_line : List ℕ → ℕ → List ℕ
bad_line option line = with_feed (codes "asp: " ++ option ++ codes ": line " ++ decimal line)

abbrev pub diverging_line : List ℕ → Name → List ℕ
diverging_line option activity =
    with_feed (codes "asp: " ++ option ++ codes ": " ++ name_text activity ++ codes " diverges")

abbrev pub usage_line : List ℕ
usage_line = with_feed (codes "asp: usage: asp FILE [OPTION ..], or asp --make N [OPTION ..]")

abbrev pub message_of : Refusal → List ℕ
message_of Usage = usage_line
message_of (Unread name) = with_feed (codes "asp: cannot read " ++ name)
message_of LongProgram = with_feed (codes "asp: program: longer than 1048576 bytes")
message_of (NoProgram fault) = fault_line (kind_text fault.kind) fault.at
message_of (Unchecked fault) = fault_line (check_text fault.kind) fault.at
message_of (LongReport which) = long_line (option_text which)
message_of (NoReport which line) = bad_line (option_text which) line
message_of (Diverges which activity) = diverging_line (option_text which) activity
message_of LongTrace = with_feed (codes "asp: trace: longer than 67108864 bytes")
message_of (NoTrace line) = bad_line (codes "trace") line
-- an entry stands in the line behind its number
message_of (Unlawful entry) = bad_line (codes "trace") (entry + 1)
message_of Unfinished = with_feed (codes "asp: trace: unfinished")
message_of LongCheckpoint = with_feed (codes "asp: resume: longer than 268435456 bytes")
message_of OtherCheckpoint = with_feed (codes "asp: resume: another program")
message_of NoCheckpoint = with_feed (codes "asp: resume: malformed")
message_of Overspent = with_feed (codes "asp: resume: more than 10000000 reductions")
message_of NoMemory = with_feed (codes "asp: no memory")

abbrev pub write_message : List ℕ
write_message = with_feed (codes "asp: cannot write")
