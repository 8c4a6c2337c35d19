use Rattle.std.proofs.Common.{◌≡◌, drop}
use Rattle.asp_model.specs.Hashed.{mixed_from, name_number}
use Rattle.asp_model.proofs.name.number_of.Given as goal

abbrev pub invariant-loop-part : goal.invariant-loop-part
invariant-loop-part l = name_number l.numbers ≡ mixed_from l.number (drop l.part-index l.numbers)
