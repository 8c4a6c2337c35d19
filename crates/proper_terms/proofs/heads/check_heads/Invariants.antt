use Rattle.std.proofs.Common.{◌≡◌, drop, map}
use Rattle.std.specs.List.{list_all}
use Rattle.code_table.specs.Parts.{method_head}
use Rattle.proper_terms.specs.Fits.{head_is_single}
use Rattle.proper_terms.proofs.heads.check_heads.Given as goal

abbrev pub invariant-loop-method : goal.invariant-loop-method
invariant-loop-method l = list_all head_is_single (map method_head (drop l.method-index l.methods)) ≡ list_all head_is_single (map method_head l.methods)
