use Rattle.std.proofs.Common.{◌≡◌, ℕ, List, [], map, take}
use Rattle.asp_model.specs.Shapes.{entry_shape}
use Rattle.asp_model.specs.Term.{Tree}
use Rattle.def_journals.specs.Journals.{RunShape, begun}
use Rattle.journal_runs.specs.Runs.{IsRunOf}
use Rattle.trace_check.proofs.check.redo_all.Given as goal

abbrev pub invariant-loop-number : goal.invariant-loop-number
invariant-loop-number l = (program : Tree) (budget : ℕ) → IsRunOf l.initial.run program budget [] (begun program budget)
    → (s : RunShape) × IsRunOf l.run program budget (take l.number (map entry_shape l.entries)) s
