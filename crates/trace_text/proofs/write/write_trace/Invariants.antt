use Rattle.std.proofs.Common.{◌≡◌, ◌++◌, true, map, take}
use Rattle.std.specs.Prelude.{codes}
use Rattle.std.specs.List.{list_all}
use Rattle.asp_model.specs.Report.{text_of, with_feed}
use Rattle.asp_model.specs.Shapes.{entry_shape}
use Rattle.trace_text.specs.Pieces.{text_in}
use Rattle.trace_text.specs.Traces.{entry_line, has_numbers}
use Rattle.trace_text.proofs.write.write_trace.Given as goal

abbrev pub invariant-loop-entry : goal.invariant-loop-entry
invariant-loop-entry l = record {
  text : text_in l.pieces ≡ with_feed (codes "asp trace 1") ++ text_of (map entry_line (map entry_shape (take l.entry-index l.journal)));
  numbers : list_all has_numbers (map entry_shape (take l.entry-index l.journal)) ≡ true;
}
