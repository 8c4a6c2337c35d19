use Rattle.std.proofs.Common.{List}
use Rattle.code_table.specs.declared.code.Node.{Node}
use Rattle.future_table.specs.Values.{values_of}
use Rattle.def_paths.specs.Outcomes.{EndShape}
use Rattle.step_ends.specs.Ends.{AreClosedStates, AreEndsFor}
use Rattle.step_ends.proofs.ReportLemmas.{IsPart}
use Rattle.step_ends.proofs.outcome.ends_of.Given as goal

abbrev pub invariant-loop-name : goal.invariant-loop-name
invariant-loop-name l = AreClosedStates l.name-iterator
    × ((k : List Node) (es : List EndShape) → AreEndsFor k (values_of l.futures) l.fn.activities.entries es
    → IsPart k (values_of l.futures) l.name-iterator es l.reports.items l.states.items)
