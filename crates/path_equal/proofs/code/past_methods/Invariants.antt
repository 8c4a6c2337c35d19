use Rattle.std.proofs.Common.{◌≡◌, List, take}
use Rattle.std.specs.List.{flat_map}
use Rattle.code_table.specs.Pieces.{Piece}
use Rattle.code_table.specs.Sound.{MethodsSound}
use Rattle.path_equal.specs.Held.{body_held}
use Rattle.path_equal.specs.Searches.{searched}
use Rattle.path_equal.proofs.code.past_methods.Given as goal

abbrev pub invariant-loop-method : goal.invariant-loop-method
invariant-loop-method l = (ps : List Piece) → MethodsSound ps l.methods → l.search ≡ searched (flat_map (body_held l.places ps) (take l.method-index l.methods)) l.fn.start
