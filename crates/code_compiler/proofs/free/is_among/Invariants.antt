use Rattle.std.proofs.Common.{◌≡◌, drop}
use Rattle.asp_model.specs.Term.{has_text}
use Rattle.code_compiler.proofs.free.is_among.Given as goal

abbrev pub invariant-loop-other : goal.invariant-loop-other
invariant-loop-other l = has_text l.name (drop l.other-index l.names) ≡ has_text l.name l.names
