-- Traces: a journal as text, and reading it.
use Rattle.std.specs.Prelude.{ℕ, suc, ◌^◌, nat_lt, ◌&&◌, Bool, true, false, List, [], ◌∷◌, ◌++◌, map, Option, Some, None, codes}
use Rattle.std.specs.Fmt.{decimal}
use Rattle.asp_model.specs.Names.{Name, FutureShape, Text, same_text}
use Rattle.asp_model.specs.WellFormed.{is_name, is_future_name}
use Rattle.asp_model.specs.Report.{name_text, future_text, text_of}
use Rattle.asp_model.specs.ReportLines.{parts, name_of, future_of}
use Rattle.asp_model.specs.History.{EntryShape, Lent, Committed, Delivered, Edge, Need}
use Rattle.text_lines.specs.Numbers.{number_below}

-- Writing

-- the line of an entry
abbrev pub entry_line : EntryShape → Text
entry_line (Lent k) = codes "lent " ++ decimal k
entry_line (Committed k r) = codes "committed " ++ decimal k ++ codes " " ++ decimal r
entry_line (Delivered (Edge f from to)) =
    codes "edge " ++ future_text f ++ codes " " ++ name_text from ++ codes " " ++ name_text to
entry_line (Delivered (Need f to place)) =
    codes "need " ++ future_text f ++ codes " " ++ name_text to ++ codes " " ++ decimal place

-- the lines of a trace, without their line feeds: a title, one for each entry, and `end`
unfoldable pub trace_lines : List EntryShape → List Text
trace_lines entries = codes "asp trace 1" ∷ map entry_line entries ++ codes "end" ∷ []

-- the text of a trace
abbrev pub trace_of : List EntryShape → Text
trace_of entries = text_of (trace_lines entries)

-- its numbers and names can stand in a trace
abbrev pub has_line : EntryShape → Bool
has_line (Lent k) = nat_lt k (2 ^ 32)
has_line (Committed k r) = nat_lt k (2 ^ 32) && nat_lt r (2 ^ 32)
has_line (Delivered (Edge f from to)) = is_future_name f && (is_name from && is_name to)
has_line (Delivered (Need f to place)) = is_future_name f && (is_name to && nat_lt place (2 ^ 128))

-- as its type has them: numbers of activities have 32 bits, and places 128
abbrev pub has_numbers : EntryShape → Bool
has_numbers (Lent k) = nat_lt k (2 ^ 32)
has_numbers (Committed k r) = nat_lt k (2 ^ 32)
has_numbers (Delivered (Edge f from to)) = true
has_numbers (Delivered (Need f to place)) = nat_lt place (2 ^ 128)

-- Reading a line

abbrev pub lent_by : Option ℕ → Option EntryShape
lent_by None = None
lent_by (Some k) = Some (Lent k)

abbrev pub committed_by : Option ℕ → Option ℕ → Option EntryShape
committed_by (Some k) (Some r) = Some (Committed k r)
committed_by k r = None

abbrev pub edge_by : Option FutureShape → Option Name → Option Name → Option EntryShape
edge_by (Some f) (Some from) (Some to) = Some (Delivered (Edge f from to))
edge_by f from to = None

abbrev pub need_by : Option FutureShape → Option Name → Option ℕ → Option EntryShape
need_by (Some f) (Some to) (Some place) = Some (Delivered (Need f to place))
need_by f to place = None

-- the delivery that begins with this word
abbrev pub delivery_of : Text → (f a b : Text) → Option EntryShape
delivery_of w f a b = elim (same_text w (codes "edge")) [
  | true ↦ edge_by (future_of f) (name_of a) (name_of b)
  | false ↦ elim (same_text w (codes "need")) [
    | true ↦ need_by (future_of f) (name_of a) (number_below (2 ^ 128) b)
    | false ↦ None
  ]
]

-- the entry whose line has these words
abbrev pub entry_of_words : List Text → Option EntryShape
entry_of_words (w ∷ a ∷ []) = elim (same_text w (codes "lent")) [
  | true ↦ lent_by (number_below (2 ^ 32) a)
  | false ↦ None
]
entry_of_words (w ∷ a ∷ b ∷ []) = elim (same_text w (codes "committed")) [
  | true ↦ committed_by (number_below (2 ^ 32) a) (number_below (2 ^ 32) b)
  | false ↦ None
]
entry_of_words (w ∷ f ∷ a ∷ b ∷ []) = delivery_of w f a b
entry_of_words ws = None

-- the entry of a line
abbrev pub entry_of : Text → Option EntryShape
entry_of line = entry_of_words (parts 32 line)

-- Reading a text

-- what may stand in the next line
pub data Next : Type 0 where
  Title : Next
  -- an entry, or `end`
  Entries : Next
  -- nothing
  Over : Next

-- how far a trace was read: what may come next, and the entries so far
pub record Progress : Type 0 where
  pub next : Next
  pub entries : List EntryShape

-- before the first line
abbrev pub before_lines : Progress
before_lines = record { next = Title; entries = [] }

-- with one entry more, where it could be read
abbrev pub with_read : Progress → Option EntryShape → Option Progress
with_read p None = None
with_read p (Some x) = Some (record p { entries = p.entries ++ x ∷ [] })

-- behind one more line; none where it cannot stand there
abbrev pub behind : Next → Progress → Text → Option Progress
behind Title p line = elim (same_text line (codes "asp trace 1")) [ true ↦ Some (record p { next = Entries }) | false ↦ None ]
behind Entries p line = elim (same_text line (codes "end")) [ true ↦ Some (record p { next = Over }) | false ↦ with_read p (entry_of line) ]
behind Over p line = None

-- what a text says
pub data TraceReading : Type 0 where
  Reads : (entries : List EntryShape) → TraceReading
  -- by its number, from 1
  BadLine : (line : ℕ) → TraceReading

-- at the end of a text, with what stands behind its last line feed
abbrev pub ended : Next → Progress → ℕ → Text → TraceReading
ended Over p number [] = Reads p.entries
ended next p number t = BadLine number

-- from the line with this number on
abbrev pub read_on : Progress → ℕ → List Text → TraceReading
read_on p number [] = BadLine number
read_on p number (t ∷ []) = ended p.next p number t
read_on p number (t ∷ u ∷ ts) = elim (behind p.next p t) [
  | None ↦ BadLine number
  | Some q ↦ read_on q (suc number) (u ∷ ts)
]

-- the entries of a trace, or its first line that cannot stand in its place
abbrev pub read_trace : Text → TraceReading
read_trace bytes = read_on before_lines 1 (parts 10 bytes)
