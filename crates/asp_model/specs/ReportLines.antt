-- What the lines of a report say, as far as it is read again.
use Rattle.std.specs.Prelude.{ℕ, nat_le, ◌==◌, not, ◌&&◌, ◌||◌, Bool, true, false, List, [], ◌∷◌, ◌++◌, Option, Some, None, length, codes}
use Rattle.std.specs.List.{onto_first}
use Rattle.std.specs.Str.{all_ascii_digits}
use Rattle.std.specs.Str.Parse.{digits_value}
use Rattle.asp_model.specs.Names.{Name, FutureShape, Text, main_name, same_text}
use Rattle.asp_model.specs.Term.{has_text}
use Rattle.asp_model.specs.Configuration.{ReceptionShape, From, Poll}
use Rattle.asp_model.specs.Contraction.{NoField, NoMethod, NotObject, NotNumber, NotGroup, BadMember, ActiveField, Overflow, ZeroDivisor}
use Rattle.asp_model.specs.Status.{End, Blocked, Budget}
use Rattle.asp_model.specs.WellFormed.{is_index}
use Rattle.asp_model.specs.Report.{fault_text, verdict_line}

-- what stands before, between and behind the bytes c of a text
abbrev pub parts : ℕ → Text → List Text
parts c [] = [] ∷ []
parts c (b ∷ bs) = elim (b == c) [ true ↦ [] ∷ parts c bs | false ↦ onto_first b (parts c bs) ]

-- each text with what f finds in it; none where f finds nothing in one of them
abbrev pub all_found : {X : Type 0} → (Text → Option X) → List Text → Option (List X)
all_found f [] = Some []
all_found f (t ∷ ts) = elim (f t) [
  | None ↦ None
  | Some x ↦ elim (all_found f ts) [ None ↦ None | Some xs ↦ Some (x ∷ xs) ]
]

-- Numbers and names

-- one digit, or more of which the first is not 0
abbrev pub is_numeral : Text → Bool
is_numeral [] = false
is_numeral (b ∷ []) = all_ascii_digits (b ∷ [])
is_numeral (b ∷ c ∷ bs) = not (b == 48) && all_ascii_digits (b ∷ c ∷ bs)

-- the number that a text writes without needless zeros
abbrev pub number_of : Text → Option ℕ
number_of t = elim (is_numeral t) [ true ↦ Some (digits_value 10 t) | false ↦ None ]

-- a number, where it may number a creation or a request
abbrev pub only_index : Option ℕ → Option ℕ
only_index None = None
only_index (Some n) = elim (is_index n) [ true ↦ Some n | false ↦ None ]

-- the number of a creation or of a request
abbrev pub index_of : Text → Option ℕ
index_of t = only_index (number_of t)

-- the activity with these creations behind main
abbrev pub under_main : Option (List ℕ) → Option Name
under_main None = None
under_main (Some ns) = Some (main_name ++ ns)

-- the name whose numbers stand in these texts
abbrev pub name_of_parts : List Text → Option Name
name_of_parts [] = None
name_of_parts (t ∷ ts) = elim (same_text t (codes "0")) [ true ↦ under_main (all_found index_of ts) | false ↦ None ]

-- 0, or 0 and the numbers of creations, with dots between
abbrev pub name_of : Text → Option Name
name_of t = name_of_parts (parts 46 t)

-- something was found
abbrev pub is_found : {X : Type 0} → Option X → Bool
is_found None = false
is_found (Some x) = true

-- the future of this sender under this number, where both could be read
abbrev pub asked_under : Option Name → Option ℕ → Option FutureShape
asked_under (Some n) (Some k) = Some (record { by = n; index = k })
asked_under n k = None

-- the future whose sender and number stand in these texts
abbrev pub future_of_parts : List Text → Option FutureShape
future_of_parts (name ∷ index ∷ []) = asked_under (name_of name) (index_of index)
future_of_parts ts = None

-- the name of a sender, `#`, and the number of a request
abbrev pub future_of : Text → Option FutureShape
future_of t = future_of_parts (parts 35 t)

-- at most 8 digits
abbrev pub count_of : Text → Option ℕ
count_of t = elim (nat_le (length t) 8) [ true ↦ number_of t | false ↦ None ]

-- Lines

-- all lines of verdicts
abbrev pub verdict_lines : List Text
verdict_lines = verdict_line End ∷ verdict_line Blocked ∷ verdict_line Budget ∷ []

-- the names of all faults
abbrev pub fault_texts : List Text
fault_texts = fault_text NoField ∷ fault_text NoMethod ∷ fault_text NotObject
    ∷ fault_text NotNumber ∷ fault_text NotGroup ∷ fault_text BadMember
    ∷ fault_text ActiveField ∷ fault_text Overflow ∷ fault_text ZeroDivisor ∷ []

-- the words of a status
abbrev pub are_status_words : List Text → Bool
are_status_words (w ∷ []) = has_text w (codes "done" ∷ codes "serving" ∷ codes "running" ∷ [])
are_status_words (w ∷ x ∷ []) =
    (same_text w (codes "awaits") && is_found (future_of x)) || (same_text w (codes "fault") && has_text x fault_texts)
are_status_words ws = false

-- a name with its count, where both could be read
abbrev pub counted : Option Name → Option ℕ → Option (Name × ℕ)
counted (Some n) (Some k) = Some (n, k)
counted n k = None

-- the name and the count of an activity line
abbrev pub activity_in : List Text → Option (Name × ℕ)
activity_in (w ∷ name ∷ count ∷ status) = elim (same_text w (codes "activity") && are_status_words status) [
  | true ↦ counted (name_of name) (count_of count)
  | false ↦ None
]
activity_in ws = None

-- the reception of a request from this sender
abbrev pub from_name : Option Name → Option ReceptionShape
from_name None = None
from_name (Some n) = Some (From n)

-- a name, or a poll where the report may have polls
abbrev pub reception_in : Bool → Text → Option ReceptionShape
reception_in polls t = elim (polls && same_text t (codes "?")) [ true ↦ Some Poll | false ↦ from_name (name_of t) ]

-- the log of a senders line
abbrev pub senders_of : Bool → List Text → Option (List ReceptionShape)
senders_of polls (w ∷ words) = elim (same_text w (codes "senders")) [
  | true ↦ all_found (reception_in polls) words
  | false ↦ None
]
senders_of polls ws = None

-- a number, a text or a state line; its rest is not looked at
abbrev pub is_output : Text → Bool
is_output (a ∷ b ∷ rest) = (a == 62 || (a == 124 || a == 46)) && b == 32
is_output t = false
