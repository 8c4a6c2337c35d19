use Rattle.std.proofs.Common.{◌≤◌, map, take}
use Rattle.std.specs.Prelude.{string_bytes}
use Rattle.std.specs.List.{concat}
use Rattle.asp_edge.specs.Causes.{Took}
use Rattle.asp_top.proofs.writing.write_all.Given as goal

abbrev pub invariant-loop-piece : goal.invariant-loop-piece
invariant-loop-piece g l = record {
  told : Took (g.O.Sink.told l.fn.out) (g.O.Sink.told l.out) (concat (map string_bytes (take l.piece-index l.pieces)));
  later : (g.O.Sink.told l.fn.out).faults ≤ (g.O.Sink.told l.out).faults;
}
