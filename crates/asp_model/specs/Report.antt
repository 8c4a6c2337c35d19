-- The end of a run as text.
use Rattle.std.specs.Prelude.{ℕ, List, [], ◌∷◌, ◌++◌, map, codes}
use Rattle.std.specs.List.{flat_map, concat, join_with_byte}
use Rattle.std.specs.Fmt.{decimal, signed_decimal}
use Rattle.asp_model.specs.Names.{Name, FutureShape}
use Rattle.asp_model.specs.Contraction.{FaultShape, NoField, NoMethod, NotObject, NotNumber, NotGroup, BadMember, ActiveField, Overflow, ZeroDivisor, LineShape, NumberLine, TextLine}
use Rattle.asp_model.specs.Configuration.{ReceptionShape, From, Poll}
use Rattle.asp_model.specs.Intent.{StatusShape, Done, Serving, Running, Awaits, Faulted}
use Rattle.asp_model.specs.Status.{VerdictShape, End, Blocked, Budget}
use Rattle.asp_model.specs.Outcome.{ActivityReportShape, OutcomeShape}

-- numbers joined by dots
abbrev pub name_text : Name → List ℕ
name_text n = join_with_byte 46 (map decimal n)

-- the sender, `#`, and the number of the request
abbrev pub future_text : FutureShape → List ℕ
future_text f = name_text f.by ++ codes "#" ++ decimal f.index

-- the name of a fault
abbrev pub fault_text : FaultShape → List ℕ
fault_text NoField = codes "NoField"
fault_text NoMethod = codes "NoMethod"
fault_text NotObject = codes "NotObject"
fault_text NotNumber = codes "NotNumber"
fault_text NotGroup = codes "NotGroup"
fault_text BadMember = codes "BadMember"
fault_text ActiveField = codes "ActiveField"
fault_text Overflow = codes "Overflow"
fault_text ZeroDivisor = codes "ZeroDivisor"

-- a status in words
abbrev pub status_text : StatusShape → List ℕ
status_text Done = codes "done"
status_text Serving = codes "serving"
status_text Running = codes "running"
status_text (Awaits f) = codes "awaits " ++ future_text f
status_text (Faulted fault) = codes "fault " ++ fault_text fault

-- the line of the verdict
abbrev pub verdict_line : VerdictShape → List ℕ
verdict_line End = codes "verdict end"
verdict_line Blocked = codes "verdict blocked"
verdict_line Budget = codes "verdict budget"

-- an activity's name, count and status
abbrev pub activity_line : ActivityReportShape → List ℕ
activity_line a =
    codes "activity " ++ name_text a.name ++ codes " " ++ decimal a.count ++ codes " " ++ status_text a.status

-- a sender's name, or `?` for a poll
abbrev pub reception_text : ReceptionShape → List ℕ
reception_text (From n) = name_text n
reception_text Poll = codes "?"

-- the line of a log
abbrev pub senders_line : List ReceptionShape → List ℕ
senders_line log = codes "senders" ++ flat_map (λ x. codes " " ++ reception_text x) log

-- a line of output, behind what tells its kind
abbrev pub output_line : LineShape → List ℕ
output_line (NumberLine n) = codes "> " ++ signed_decimal n
output_line (TextLine text) = codes "| " ++ text

-- all lines of an activity
abbrev pub activity_lines : ActivityReportShape → List (List ℕ)
activity_lines a = activity_line a ∷ senders_line a.senders ∷ map output_line a.lines

-- the lines of a report, without their line feeds
unfoldable pub report_lines : OutcomeShape → List (List ℕ)
report_lines o = codes "asp report 2" ∷ verdict_line o.verdict ∷ flat_map activity_lines o.activities

-- a line with its line feed
abbrev pub with_feed : List ℕ → List ℕ
with_feed line = line ++ 10 ∷ []

-- lines, each with its line feed, one after another
abbrev pub text_of : List (List ℕ) → List ℕ
text_of lines = concat (map with_feed lines)

-- the text of a report
abbrev pub report_of : OutcomeShape → List ℕ
report_of o = text_of (report_lines o)
