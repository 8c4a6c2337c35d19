use Rattle.std.proofs.Common.{◌≡◌, None, take}
use Rattle.code_table.specs.Classes.{number_of}
use Rattle.code_table.specs.Tables.{labels_of}
use Rattle.code_table.proofs.class.Class.walk_fields.Given as goal

abbrev pub invariant-loop-i : goal.invariant-loop-i
invariant-loop-i l = number_of l.label.text (take l.i (labels_of l.self)) ≡ None
