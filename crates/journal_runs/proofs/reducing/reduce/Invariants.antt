use Rattle.asp_model.specs.Configuration.{Configuration}
use Rattle.asp_model.specs.Names.{Name}
use Rattle.asp_model.specs.Term.{Tree}
use Rattle.journal_runs.specs.Reducing.{IsOnTheWay}
use Rattle.journal_runs.specs.Stepping.{IsReducing}
use Rattle.journal_runs.proofs.reducing.reduce.Given as goal

abbrev pub invariant-loop-left : goal.invariant-loop-left
invariant-loop-left l = (program : Tree) (c : Configuration) (n : Name) → IsReducing l.initial.population program c l.number n
    → IsOnTheWay l.population program l.initial.population.roster c l.number n l.reductions l.left

abbrev pub decreases-loop-left : goal.decreases-loop-left
decreases-loop-left l = l.left
