use Rattle.std.proofs.Common.{◌≡◌, map, drop}
use Rattle.asp_check.specs.Sets.{names_in}
use Rattle.asp_check.specs.declared.fault.CheckKind.TheVariants as kind
use Rattle.asp_check.proofs.Repeating.{read}
use Rattle.asp_check.proofs.heads.note_parameters.Given as goal

abbrev pub invariant-loop-parameter : goal.invariant-loop-parameter
invariant-loop-parameter l =
    (read kind.DoubleParameter l.places.node (map (λ w. w) (drop l.parameter-index l.parameters)) (record { least = l.least; earlier = names_in l.names; places = l.places.left.now })
    ≡ read kind.DoubleParameter l.initial.places.node (map (λ w. w) l.parameters) (record { least = l.initial.least; earlier = names_in l.initial.names; places = l.initial.places.left.now }))
    × (l.places.node ≡ l.initial.places.node)
