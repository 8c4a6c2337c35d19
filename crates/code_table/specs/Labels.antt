-- What contracts see of a label that is shared.
use Rattle.std.specs.Arc.{arc_value}
use Rattle.asp_model.specs.declared.word.Label.{Label}
use Rattle.code_table.specs.declared.labels.Held.{Held}
use Rattle.code_table.specs.declared.labels.Held.TheVariants as held

-- the label
abbrev pub held_label : Held → Label
held_label (held.Alone label) = label
held_label (held.Shared label) = arc_value label
