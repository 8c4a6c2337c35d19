-- A text in pieces.
use Rattle.std.specs.Prelude.{ℕ, List, ◌++◌, map, string_bytes}
use Rattle.std.specs.List.{concat}
use Rattle.trace_text.specs.declared.write.Pieces.{Pieces}

-- what is written so far
abbrev pub text_in : Pieces → List ℕ
text_in p = concat (map string_bytes p.full.items) ++ string_bytes p.last
