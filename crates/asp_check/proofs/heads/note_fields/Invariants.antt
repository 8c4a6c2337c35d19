use Rattle.std.proofs.Common.{◌≡◌, map, drop}
use Rattle.asp_check.specs.Sets.{names_in}
use Rattle.asp_check.specs.Walk.{field_label}
use Rattle.asp_check.specs.declared.fault.CheckKind.TheVariants as kind
use Rattle.asp_check.proofs.Repeating.{read}
use Rattle.asp_check.proofs.heads.note_fields.Given as goal

abbrev pub invariant-loop-label : goal.invariant-loop-label
invariant-loop-label l = (read kind.DoubleLabel l.places.node (map field_label (drop l.label-index l.fields)) (record { least = l.least; earlier = names_in l.labels; places = l.places.left.now })
    ≡ read kind.DoubleLabel l.initial.places.node (map field_label l.fields) (record { least = l.initial.least; earlier = names_in l.initial.labels; places = l.initial.places.left.now }))
    × (l.places.node ≡ l.initial.places.node)
