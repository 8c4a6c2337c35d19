use Rattle.std.proofs.Common.{◌≡◌, drop}
use Rattle.asp_edge.specs.MemorySource.{content_of}
use Rattle.asp_edge.proofs.memory_source.find.Given as goal

abbrev pub invariant-loop-i : goal.invariant-loop-i
invariant-loop-i l = content_of (drop l.i l.files) l.name ≡ content_of l.files l.name
