use Rattle.std.proofs.Common.{◌≡◌, map, take}
use Rattle.code_table.specs.Keys.{text_key}
use Rattle.code_table.proofs.keys.keys_of_methods.Given as goal

abbrev pub invariant-loop-method : goal.invariant-loop-method
invariant-loop-method l = l.keys.items ≡ map (λ x. text_key x.label.text) (take l.method-index l.methods)
