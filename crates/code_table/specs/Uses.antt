-- Which of the captured places a piece holds, in text order.
use Rattle.std.specs.Prelude.{◌≡◌, ℕ, zero, suc, List, [], ◌∷◌, ◌++◌, get_or, length, map}
use Rattle.std.specs.List.{flat_map}
use Rattle.asp_model.specs.Names.{Text}
use Rattle.asp_model.specs.Term.{Environment, loc, locations}
use Rattle.code_table.specs.declared.code.Leaf.{Leaf}
use Rattle.code_table.specs.declared.code.Leaf.TheVariants as leaves
use Rattle.code_table.specs.declared.code.Capture.{Capture}
use Rattle.code_table.specs.Pieces.{Piece, variable, piece, object, Pieces, nothing, also, Bodies, no_method, method, tree}
use Rattle.code_table.specs.Fitting.{Fits}

abbrev pub leaf_use : Leaf → List ℕ
leaf_use (leaves.Own k x) = []
leaf_use (leaves.Kept k) = k ∷ []

-- what a method's slot holds of what was captured round its object
abbrev pub use_at : List Capture → ℕ → List ℕ
use_at [] k = []
use_at (c ∷ cs) zero = leaf_use c.leaf
use_at (c ∷ cs) (suc k) = use_at cs k

abbrev mutual
  pub uses : Piece → List ℕ
  uses (variable l) = leaf_use l
  uses (piece h ps) = uses_below ps
  uses (object ls fs ms) = uses_below fs ++ uses_in ms

  pub uses_below : Pieces → List ℕ
  uses_below nothing = []
  uses_below (also p ps) = uses p ++ uses_below ps

  pub uses_in : Bodies → List ℕ
  uses_in no_method = []
  uses_in (method m cs b ms) = flat_map (use_at cs) (uses b) ++ uses_in ms

-- the places at these slots
abbrev pub at_slots : List ℕ → List ℕ → List ℕ
at_slots cs ks = map (λ k. get_or cs k 0) ks

-- the locations of a piece over captured places are those that it uses
abbrev pub LocationsAreUses : Type 0
LocationsAreUses = (xs : List Text) (scope : Environment) (h : ℕ) (p : Piece) (cs : List ℕ)
    → Fits xs scope h p → length xs ≡ length cs → locations (tree (map loc cs) p) ≡ at_slots cs (uses p)
