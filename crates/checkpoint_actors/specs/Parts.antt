-- All of a checkpoint, over whole code.
use Rattle.std.specs.Prelude.{◌≡◌, List, [], map}
use Rattle.std.specs.Arc.{arc_value}
use Rattle.asp_model.specs.Chase.{Values}
use Rattle.asp_model.specs.Term.{Tree}
use Rattle.checkpoint_items.specs.Lines.{home_shape}
use Rattle.checkpoint_states.specs.Activities.{StandAs}
use Rattle.code_table.specs.declared.code.Node.{Node}
use Rattle.code_table.specs.Pieces.{tree}
use Rattle.code_table.specs.Sound.{root_of}
use Rattle.code_table.specs.Tables.{piece_at, pieces}
use Rattle.future_table.specs.Values.{AreOfCode, values_of}
use Rattle.law_frozen.specs.Frozen.{FrozenActivity, FrozenShape}
use Rattle.checkpoint_actors.specs.Actors.{AreActorsOf}
use Rattle.checkpoint_actors.specs.Values.{value_by}
use Rattle.checkpoint_actors.specs.declared.parts.Made.{Made}
use Rattle.checkpoint_actors.specs.declared.parts.Parts.{Parts}

-- the program that a table of code stands for
abbrev pub root_tree : List Node → Tree
root_tree k = tree [] (piece_at (pieces k) (root_of k))

-- the values and activities stand for these by the code, in which the program comes last
pub record IsMadeFrom (vs : Values) (xs : List FrozenActivity) (t : Tree) (m : Made) : Type 0 where
  pub values : map (value_by (arc_value m.code)) m.values.items ≡ vs
  pub activities : StandAs (arc_value m.code) m.activities.items xs
  pub program : root_tree (arc_value m.code) ≡ t

-- what goes on from a checkpoint of this program
pub record ArePartsOf (f : FrozenShape) (t : Tree) (p : Parts) : Type 0 where
  pub homes : map home_shape p.homes.items ≡ f.homes
  pub values : values_of p.futures ≡ f.filled
  pub coded : AreOfCode (arc_value p.code) p.futures
  pub actors : AreActorsOf (arc_value p.code) f f.activities p.actors.items
  pub program : root_tree (arc_value p.code) ≡ t
