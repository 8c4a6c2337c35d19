-- Worked traces, and texts that are none.
use Prim.Native.String.{String}
use Rattle.std.specs.Prelude.{◌≡◌, ℕ, List, [], ◌∷◌, ◌++◌, map, codes}
use Rattle.asp_model.specs.Names.{Text}
use Rattle.asp_model.specs.Report.{text_of}
use Rattle.asp_model.specs.History.{EntryShape, Lent, Committed, Delivered, Edge, Need}
use Rattle.trace_text.specs.Traces.{trace_of, read_trace, Reads, BadLine}

abbrev pub text_with : List String → Text
text_with lines = text_of (map (λ l. codes l) lines)

abbrev pub IsBadAt : ℕ → List String → Type 0
IsBadAt number lines = read_trace (text_with lines) ≡ BadLine number

-- print(a.inc(41)), where the answer goes to main along its edge, and once more where it is needed
abbrev pub worked_entries : List EntryShape
worked_entries = Lent 0 ∷ Committed 0 2 ∷ Lent 1 ∷ Committed 1 4
    ∷ Delivered (Edge (record { by = 0 ∷ []; index = 1 }) (0 ∷ 1 ∷ []) (0 ∷ []))
    ∷ Delivered (Need (record { by = 0 ∷ []; index = 1 }) (0 ∷ []) 12) ∷ Lent 0 ∷ Committed 0 1 ∷ []

abbrev pub worked_lines : List String
worked_lines = "asp trace 1" ∷ "lent 0" ∷ "committed 0 2" ∷ "lent 1" ∷ "committed 1 4"
    ∷ "edge 0#1 0.1 0" ∷ "need 0#1 0 12" ∷ "lent 0" ∷ "committed 0 1" ∷ "end" ∷ []

pub record Written : Type 0 where
  pub lines : trace_of worked_entries ≡ text_with worked_lines
  pub read : read_trace (text_with worked_lines) ≡ Reads worked_entries
  pub nothing : read_trace (text_with ("asp trace 1" ∷ "end" ∷ [])) ≡ Reads []

-- by the number of the first line that cannot stand there, or of the one that is missing
pub record Refused : Type 0 where
  pub empty : read_trace [] ≡ BadLine 1
  pub title : IsBadAt 1 ("asp trace 2" ∷ "end" ∷ [])
  pub no_end : IsBadAt 3 ("asp trace 1" ∷ "lent 0" ∷ [])
  pub two_ends : IsBadAt 3 ("asp trace 1" ∷ "end" ∷ "end" ∷ [])
  pub no_feed : read_trace (text_with ("asp trace 1" ∷ []) ++ codes "end") ≡ BadLine 2
  pub more : read_trace (text_with ("asp trace 1" ∷ "end" ∷ []) ++ codes "x") ≡ BadLine 3
  pub return : IsBadAt 2 ("asp trace 1" ∷ "lent 0\r" ∷ "end" ∷ [])
  pub zero : IsBadAt 2 ("asp trace 1" ∷ "committed 0 03" ∷ "end" ∷ [])
  pub number : IsBadAt 2 ("asp trace 1" ∷ "lent 4294967296" ∷ "end" ∷ [])
  pub place : IsBadAt 2 ("asp trace 1" ∷ "need 0#1 0 340282366920938463463374607431768211456" ∷ "end" ∷ [])
  pub turned : IsBadAt 2 ("asp trace 1" ∷ "need 12 0 0#1" ∷ "end" ∷ [])
  pub spaces : IsBadAt 2 ("asp trace 1" ∷ "lent  0" ∷ "end" ∷ [])
