use Rattle.std.proofs.Common.{◌≡◌, ◌++◌, map, take}
use Rattle.std.specs.Prelude.{string_bytes}
use Rattle.code_table.specs.Tables.{text_of}
use Rattle.state_lines.specs.Texts.{labels_text}
use Rattle.state_lines.proofs.texts.push_labels.Given as goal

abbrev pub invariant-loop-label : goal.invariant-loop-label
invariant-loop-label l = string_bytes l.text ≡ string_bytes l.fn.text ++ labels_text (map text_of (take l.label-index l.labels))
