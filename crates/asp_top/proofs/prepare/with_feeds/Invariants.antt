use Rattle.std.proofs.Common.{◌≡◌, ◌++◌, map}
use Rattle.std.specs.Prelude.{string_bytes}
use Rattle.asp_model.specs.Report.{with_feed}
use Rattle.asp_top.proofs.prepare.with_feeds.Given as goal

abbrev pub invariant-loop-line : goal.invariant-loop-line
invariant-loop-line l = record {
  made : map string_bytes l.pieces.items ≡ map with_feed l.yielded;
  whole : l.fn.lines.items ≡ l.yielded ++ l.line-iterator.rest.items;
}
