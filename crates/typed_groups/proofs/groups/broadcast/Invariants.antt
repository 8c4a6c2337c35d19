use Rattle.std.proofs.Common.{◌≡◌, map, take}
use Rattle.asp_model.specs.Shapes.{tree_of}
use Rattle.typed_groups.specs.Calls.{call_to}
use Rattle.typed_groups.proofs.groups.broadcast.Given as goal

abbrev pub invariant-loop-member : goal.invariant-loop-member
invariant-loop-member l = map tree_of l.calls.items ≡ map (λ n. call_to l.label.text n l.arguments) (take l.member-index l.members)
