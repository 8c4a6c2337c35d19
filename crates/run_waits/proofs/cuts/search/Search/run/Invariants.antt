use Rattle.std.proofs.Common.{◌≤◌, ◌-◌}
use Rattle.asp_model.specs.Names.{Name}
use Rattle.asp_model.specs.Term.{Tree}
use Rattle.asp_model.specs.Replay.{CountsShape}
use Rattle.run_waits.specs.Searches.{IsSearching, IsSought, goal_of}
use Rattle.run_waits.proofs.cuts.search.Search.run.Given as goal

abbrev pub invariant-loop-left : goal.invariant-loop-left
invariant-loop-left l = (l.left ≤ l.turns) × ((program : Tree) (n : Name) (counts : CountsShape) → IsSought (goal_of program l.lists n l.count) counts l.receipts
    → IsSearching (goal_of program l.lists n l.count) l.lists l.initial.self 0 → IsSearching (goal_of program l.lists n l.count) l.lists l.self (l.turns - l.left))

abbrev pub decreases-loop-left : goal.decreases-loop-left
decreases-loop-left l = l.left
