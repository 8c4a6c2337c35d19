use Rattle.std.proofs.Common.{◌≡◌, drop}
use Rattle.code_table.specs.Parts.{field_tree}
use Rattle.checkpoint_files.specs.declared.running.Inner.TheVariants.{Place}
use Rattle.checkpoint_files.specs.Running.{open_by}
use Rattle.checkpoint_files.proofs.running.first_open_field.Given as goal

abbrev pub invariant-loop-field : goal.invariant-loop-field
invariant-loop-field l = open_by field_tree l.first (drop l.field-index l.fields) ≡ open_by field_tree Place l.fields
