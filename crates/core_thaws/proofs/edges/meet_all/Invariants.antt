use Rattle.std.proofs.Common.{◌≡◌, take}
use Rattle.core_edges.specs.Strategies.{KeepsEdges}
use Rattle.core_thaws.specs.Telling.{all_met}
use Rattle.core_thaws.proofs.edges.meet_all.Given as goal

abbrev pub invariant-loop-place : goal.invariant-loop-place
invariant-loop-place g l = (l.edges.holders.activities ≡ all_met (take l.place l.activities)) × KeepsEdges l.fn.edges l.edges
