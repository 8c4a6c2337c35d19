use Rattle.std.proofs.Common.{◌≡◌, map, take}
use Rattle.asp_model.specs.Shapes.{tree_of}
use Rattle.typed_groups.proofs.GroupLemmas.{pair_calls}
use Rattle.typed_groups.proofs.groups.paired.Given as goal

abbrev pub invariant-loop-at : goal.invariant-loop-at
invariant-loop-at l = map tree_of l.calls.items ≡ pair_calls l.label.text (take l.at l.members) (take l.at l.others)
