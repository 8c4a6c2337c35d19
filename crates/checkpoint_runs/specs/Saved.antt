-- What is written of a frozen run.
use Rattle.std.specs.Prelude.{◌≡◌, List, [], ◌∷◌, ◌++◌, codes, map, string_bytes}
use Rattle.std.specs.List.{concat, flat_map}
use Rattle.std.specs.declared.alloc.Global.{Global}
use Rattle.std.specs.declared.string.String.{String}
use Rattle.asp_model.specs.Configuration.{Configuration}
use Rattle.asp_model.specs.History.{FirstShape}
use Rattle.asp_model.specs.Marked.{Marked}
use Rattle.asp_model.specs.Names.{Name, Text, future_cmp}
use Rattle.asp_model.specs.Report.{text_of as lines_text}
use Rattle.def_journals.specs.Edges.{homes_in}
use Rattle.syntax_tokens.specs.Texts.{text_of}
use Rattle.asp_print.specs.Tokens.{tokens_of}
use Rattle.law_frozen.specs.Frozen.{FrozenActivity, frozen_at, in_order}
use Rattle.checkpoint_text.specs.Items.{future_items, list_items, name_items, pair_items, parcel_items}
use Rattle.checkpoint_text.specs.Lines.{activity_items, line_of}

-- a program as it is printed
abbrev pub program_text : Marked → Text
program_text m = text_of (tokens_of m)

-- the line of an activity
abbrev pub activity_text : FrozenActivity → Text
activity_text x = line_of (codes "activity") (activity_items x)

-- the lines before those of activities
abbrev pub head_lines : Text → FirstShape → List Text
head_lines program x =
    codes "asp checkpoint 1"
    ∷ (codes "program " ++ program)
    ∷ line_of (codes "homes") (list_items (pair_items future_items name_items) (in_order future_cmp (homes_in x.configuration)))
    ∷ line_of (codes "filled") (list_items (pair_items future_items parcel_items) x.configuration.futures)
    ∷ []

abbrev pub activity_lines : Configuration → List Name → List Text
activity_lines c names = map activity_text (flat_map (frozen_at c) names)

-- all lines but the last
abbrev pub lines_but_end : Text → FirstShape → List Text
lines_but_end program x = head_lines program x ++ activity_lines x.configuration x.names

-- what pieces are, one after another
abbrev pub text_in : List (String Global) → Text
text_in pieces = concat (map string_bytes pieces)

-- pieces with these lines more, each with its line feed
abbrev pub AddsLines : List (String Global) → List Text → List (String Global) → Type 0
AddsLines old lines new = text_in new ≡ text_in old ++ lines_text lines
