-- Objects as redexes.
use Rattle.std.specs.Prelude.{ℕ, List, map}
use Rattle.asp_model.specs.declared.term.Method.{Method}
use Rattle.asp_model.specs.declared.word.Label.{Label}
use Rattle.asp_model.specs.Names.{Text}
use Rattle.asp_model.specs.Term.{Make, MethodHead, Tree, Trees, loc, trees}
use Rattle.asp_model.specs.Split.{Redex}
use Rattle.asp_model.specs.Store.{CellShape, Object}
use Rattle.code_table.specs.declared.code.Node.{Node}
use Rattle.code_table.specs.Parts.{body_tree, method_head}
use Rattle.code_table.specs.Sound.{IsOrdered}
use Rattle.checkpoint_reading.specs.Cells.{method_shape, place_field}
use Rattle.frozen_code.specs.Held.{IsHeld}
use Rattle.frozen_code.specs.declared.held.Held.{Held}

-- the label of a field, and its place
abbrev pub label_at : Label × ℕ → Text
label_at f = f.0.text

abbrev pub place_at : Label × ℕ → ℕ
place_at f = f.1

-- the term that makes an object, whose fields have these places
abbrev pub object_redex : List (Label × ℕ) → List Method → Redex
object_redex fields methods = record {
  head = Make (map label_at fields) (map method_head methods);
  places = map place_at fields;
  behind = trees (map body_tree methods);
}

-- a node that makes an object, and its places
pub record HoldsObject (ns : List Node) (x : Held) : Type 0 where
  pub ordered : IsOrdered 0 ns
  pub labels : List Text
  pub heads : List MethodHead
  pub count : ℕ
  pub bodies : Trees
  pub held : IsHeld ns x.node x.places.items (Make labels heads) count bodies

-- the term of a field
abbrev pub place_tree : Label × ℕ → Tree
place_tree f = loc f.1

-- the object that was read
abbrev pub object_cell : List (Label × ℕ) → List Method → CellShape
object_cell fields methods = Object (map place_field fields) (map method_shape methods)
