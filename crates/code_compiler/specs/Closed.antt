-- Terms of programs whose variables are bound.
use Rattle.std.specs.Prelude.{◌≡◌, Bool, true, false, List, [], ◌∷◌, ◌++◌}
use Rattle.asp_model.specs.Names.{Text}
use Rattle.asp_model.specs.Term.{Head, Loc, Hole, Var, Tree, Trees, node, none, more, binders, child_count, has_text}
use Rattle.asp_model.specs.Readable.{HasArity}

-- a node of a program, where these names are bound: no place, no hole and no other variable
abbrev pub is_closed_node : List Text → Head → Bool
is_closed_node bound (Loc n) = false
is_closed_node bound Hole = false
is_closed_node bound (Var x) = has_text x bound
is_closed_node bound h = true

abbrev mutual
  -- a term of a program, where these names are bound
  pub IsClosed : List Text → Tree → Type 0
  IsClosed bound (node h ts) = (is_closed_node bound h ≡ true) × HasArity h (child_count ts) × AreClosed bound (binders h) ts

  -- the terms below a node, each also under the names that the node binds in it
  pub AreClosed : List Text → List (List Text) → Trees → Type 0
  AreClosed bound names none = Unit {0}
  AreClosed bound [] (more t ts) = IsClosed bound t × AreClosed bound [] ts
  AreClosed bound (xs ∷ names) (more t ts) = IsClosed (xs ++ bound) t × AreClosed bound names ts
