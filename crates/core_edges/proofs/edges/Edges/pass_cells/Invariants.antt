use Rattle.std.proofs.Common.{take}
use Rattle.core_edges.specs.Passing.{ArePassed, futures_held}
use Rattle.core_edges.proofs.edges.Edges.pass_cells.Given as goal

abbrev pub invariant-loop-place : goal.invariant-loop-place
invariant-loop-place g l = ArePassed g.P.UpdatePolicy.answer g.P.UpdatePolicy.asked (futures_held (take l.place l.cells.items)) l.from l.to l.fn.self l.self
