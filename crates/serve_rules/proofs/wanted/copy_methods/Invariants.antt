use Rattle.std.proofs.Common.{◌≡◌, map, take}
use Rattle.serve_rules.specs.Labels.{label_text, method_text}
use Rattle.serve_rules.proofs.wanted.copy_methods.Given as goal

-- those before this one are copied
abbrev pub invariant-loop-method : goal.invariant-loop-method
invariant-loop-method l = map label_text l.items.items ≡ map method_text (take l.method-index l.methods)
