use Rattle.std.proofs.Common.{◌≡◌, ◌++◌, take}
use Rattle.std.specs.Prelude.{string_bytes}
use Rattle.state_lines.specs.Texts.{labels_text, method_labels}
use Rattle.state_lines.proofs.texts.push_methods.Given as goal

abbrev pub invariant-loop-method : goal.invariant-loop-method
invariant-loop-method l = string_bytes l.text ≡ string_bytes l.fn.text ++ labels_text (method_labels (take l.method-index l.methods))
