use Rattle.std.proofs.Common.{◌≡◌, None, map, take}
use Rattle.code_table.specs.Classes.{number_of}
use Rattle.code_table.specs.Tables.{head_of}
use Rattle.code_table.proofs.class.Class.walk_methods.Given as goal

abbrev pub invariant-loop-i : goal.invariant-loop-i
invariant-loop-i l = number_of l.label.text (take l.i (map (λ m. (head_of m).label) l.self.methods.items)) ≡ None
