use Rattle.std.proofs.Common.{◌≡◌, map, take}
use Rattle.code_table.specs.Keys.{text_key}
use Rattle.code_table.proofs.keys.keys_of_fields.Given as goal

abbrev pub invariant-loop-field : goal.invariant-loop-field
invariant-loop-field l = l.keys.items ≡ map (λ x. text_key x.text) (take l.field-index l.fields)
