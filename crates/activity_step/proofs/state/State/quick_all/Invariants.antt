use Rattle.std.proofs.Common.{◌≤◌, ◌-◌, List}
use Rattle.asp_model.specs.Configuration.{ServiceShape}
use Rattle.asp_model.specs.Contraction.{LineShape}
use Rattle.asp_model.specs.Store.{Store}
use Rattle.asp_model.specs.Term.{Tree}
use Rattle.activity_step.specs.Advances.{AreTaken, Stands}
use Rattle.activity_step.proofs.state.State.quick_all.Given as goal

abbrev pub invariant-loop-left : goal.invariant-loop-left
invariant-loop-left l =
    (l.left ≤ l.most)
    × ((t : Tree) (vs : List ServiceShape) (s : Store) (ls : List LineShape) → Stands l.code l.fn.self t vs s ls → AreTaken l.code l.self t vs s ls (l.most - l.left))

abbrev pub decreases-loop-left : goal.decreases-loop-left
decreases-loop-left l = l.left
