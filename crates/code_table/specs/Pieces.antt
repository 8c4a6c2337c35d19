-- What a node of code stands for: a tree whose variables have slots, and whose objects say what their methods capture.
use Rattle.std.specs.Prelude.{ℕ, zero, suc, List, [], ◌∷◌, map}
use Rattle.asp_model.specs.Names.{Text}
use Rattle.asp_model.specs.Term.{Head, MethodHead, Hole, Var, Make, Tree, Trees, node, none, more, leaf}
use Rattle.code_table.specs.declared.code.Leaf.{Leaf}
use Rattle.code_table.specs.declared.code.Leaf.TheVariants as leaves
use Rattle.code_table.specs.declared.code.Capture.{Capture}

mutual
  pub data Piece : Type 0 where
    variable : (leaf : Leaf) → Piece
    piece : (head : Head) (below : Pieces) → Piece
    object : (labels : List Text) (fields : Pieces) (methods : Bodies) → Piece

  pub data Pieces : Type 0 where
    nothing : Pieces
    also : (first : Piece) (others : Pieces) → Pieces

  pub data Bodies : Type 0 where
    no_method : Bodies
    method : (head : MethodHead) (captured : List Capture) (body : Piece) (others : Bodies) → Bodies

abbrev pub count : Pieces → ℕ
count nothing = 0
count (also p ps) = suc (count ps)

abbrev pub heads_of : Bodies → List MethodHead
heads_of no_method = []
heads_of (method h cs b ms) = h ∷ heads_of ms

-- The term of a piece

abbrev pub at_slot : ℕ → List Tree → Tree
at_slot k [] = leaf Hole
at_slot zero (t ∷ ts) = t
at_slot (suc k) (t ∷ ts) = at_slot k ts

abbrev pub leaf_tree : List Tree → Leaf → Tree
leaf_tree ts (leaves.Own k x) = leaf (Var x)
leaf_tree ts (leaves.Kept k) = at_slot k ts

-- what a method captures, where these stand for what was captured round its object
abbrev pub captured_trees : List Tree → List Capture → List Tree
captured_trees ts cs = map (λ c. leaf_tree ts c.leaf) cs

abbrev mutual
  -- the term, with these trees for what was captured
  pub tree : List Tree → Piece → Tree
  tree ts (variable l) = leaf_tree ts l
  tree ts (piece h ps) = node h (below ts ps none)
  tree ts (object ls fs ms) = node (Make ls (heads_of ms)) (below ts fs (bodies ts ms))

  -- the terms of pieces, before others
  pub below : List Tree → Pieces → Trees → Trees
  below ts nothing us = us
  below ts (also p ps) us = more (tree ts p) (below ts ps us)

  pub bodies : List Tree → Bodies → Trees
  bodies ts no_method = none
  bodies ts (method h cs b ms) = more (tree (captured_trees ts cs) b) (bodies ts ms)
