use Rattle.std.proofs.Common.{◌≡◌, ◌++◌, ℕ, List, drop, length, map}
use Rattle.asp_model.specs.Shapes.{tree_of}
use Rattle.code_table.specs.declared.code.Node.{Node}
use Rattle.step_machine.specs.Calls.{IsLaid, rounds}
use Rattle.code_reading.specs.Groups.{call_trees}
use Rattle.code_reading.proofs.groups.with_calls.Given as goal

abbrev pub invariant-loop-i : goal.invariant-loop-i
invariant-loop-i l =
    (k : List Node) (number : ℕ) (x : IsLaid k l.spread number l.members l.own) → length x.given ≡ l.found.given → (let all = rounds l.spread x.given x.receivers x.beside in let label = l.found.label.now.text in
    map tree_of l.terms.items ++ call_trees label (drop l.i all) ≡ map tree_of l.fn.before.items ++ call_trees label (drop l.first all))
