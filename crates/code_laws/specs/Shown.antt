-- The term of a piece, read without its scope: a variable with a slot below the height of the environment stands for what is there.
use Rattle.std.specs.Prelude.{◌≡◌, ℕ, zero, suc, List, [], ◌∷◌, map}
use Rattle.asp_model.specs.Names.{Text}
use Rattle.asp_model.specs.Term.{Hole, Var, Make, Tree, Trees, node, none, more, leaf, loc, Environment}
use Rattle.code_table.specs.declared.code.Leaf.{Leaf}
use Rattle.code_table.specs.declared.code.Leaf.TheVariants as leaves
use Rattle.code_table.specs.declared.code.Capture.{Capture}
use Rattle.code_table.specs.Pieces.{Piece, variable, piece, object, Pieces, nothing, also, Bodies, no_method, method, heads_of}
use Rattle.code_table.specs.Fitting.{Runs, term_in}

abbrev pub tree_or : Tree → ℕ → List Tree → Tree
tree_or d k [] = d
tree_or d zero (t ∷ ts) = t
tree_or d (suc k) (t ∷ ts) = tree_or d k ts

abbrev pub shown_leaf : List Tree → Leaf → Tree
shown_leaf ts (leaves.Own k x) = tree_or (leaf (Var x)) k ts
shown_leaf ts (leaves.Kept k) = tree_or (leaf Hole) k ts

abbrev pub shown_captures : List Tree → List Capture → List Tree
shown_captures ts cs = map (λ c. shown_leaf ts c.leaf) cs

abbrev mutual
  pub shown : List Tree → Piece → Tree
  shown ts (variable l) = shown_leaf ts l
  shown ts (piece h ps) = node h (shown_below ts ps none)
  shown ts (object ls fs ms) = node (Make ls (heads_of ms)) (shown_below ts fs (shown_bodies ts ms))

  -- before others
  pub shown_below : List Tree → Pieces → Trees → Trees
  shown_below ts nothing us = us
  shown_below ts (also p ps) us = more (shown ts p) (shown_below ts ps us)

  pub shown_bodies : List Tree → Bodies → Trees
  shown_bodies ts no_method = none
  shown_bodies ts (method m cs b ms) = more (shown (shown_captures ts cs) b) (shown_bodies ts ms)

-- the terms below a node
abbrev pub shown_terms : List Tree → Piece → Trees
shown_terms ts (variable l) = none
shown_terms ts (piece h ps) = shown_below ts ps none
shown_terms ts (object ls fs ms) = shown_below ts fs (shown_bodies ts ms)

-- a piece that runs in an environment is shown as its term
abbrev pub TermsAreShown : Type 0
TermsAreShown = (xs : List Text) (scope : Environment) (ns : List ℕ) (p : Piece) → Runs xs scope ns p → term_in xs scope ns p ≡ shown (map loc ns) p
