use Rattle.std.proofs.Common.{◌≡◌, drop, map}
use Rattle.std.specs.List.{list_all}
use Rattle.proper_terms.specs.Fits.{method_fits, method_shape}
use Rattle.proper_terms.proofs.whole.check_methods.Given as goal

abbrev pub invariant-loop-method : goal.invariant-loop-method
invariant-loop-method l = list_all (method_fits l.size) (map method_shape (drop l.method-index l.methods)) ≡ list_all (method_fits l.size) (map method_shape l.methods)
