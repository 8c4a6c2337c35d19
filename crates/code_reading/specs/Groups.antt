-- The terms of calls.
use Rattle.std.specs.Prelude.{ℕ, List, map}
use Rattle.asp_model.specs.Names.{Text}
use Rattle.asp_model.specs.Term.{Call, Tree, none, node, locs_then}

-- a call of each of these lists of places, the receiver first
abbrev pub call_trees : Text → List (List ℕ) → List Tree
call_trees l rs = map (λ r. node (Call l) (locs_then r none)) rs
