-- The whole text of a remark on a file.
use Rattle.std.specs.Prelude.{ℕ, List, ◌++◌, option_map, string_bytes}
use Rattle.explain.specs.declared.remark.Remark.{Remark}
use Rattle.text_places.specs.Positions.{lead, position_at, tail}
use Rattle.explain.specs.Remarks.{cure_line, excerpt, heading, severity_text}

-- the place and the sentence; the line, as far as 80 bytes before the place and 80 from it on, with the caret; the cure
abbrev pub text_of : List ℕ → List ℕ → Remark → List ℕ
text_of file bytes r =
    heading file (position_at bytes r.at) (severity_text r.severity) (string_bytes r.sentence)
    ++ (excerpt (lead 80 bytes r.at) (tail 80 bytes r.at) ++ cure_line (option_map (λ s. s.now) r.cure))
