use Rattle.std.proofs.Common.{◌≡◌, ◌≤◌, ◌-◌, length, take}
use Rattle.asp_edge.specs.System.{stream_of, stream_told}
use Rattle.asp_edge.specs.Causes.{Took}
use Rattle.asp_edge.proofs.system.StdSinkSink.write.Given as goal

abbrev pub invariant-loop-done : goal.invariant-loop-done
invariant-loop-done g l = record {
  within : l.done ≤ length l.piece;
  faults : l.self.faults ≡ l.fn.self.faults;
  took : Took (stream_told (g.W.Write.contents (stream_of l.fn.self)) l.fn.self) (stream_told (g.W.Write.contents (stream_of l.self)) l.self) (take l.done l.piece);
}

abbrev pub decreases-loop-done : goal.decreases-loop-done
decreases-loop-done g l = length l.piece - l.done
