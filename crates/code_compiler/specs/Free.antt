-- The names that a term leaves free.
use Rattle.std.specs.Prelude.{true, false, List, [], ◌∷◌, ◌++◌}
use Rattle.asp_model.specs.Names.{Text}
use Rattle.asp_model.specs.Term.{Var, Tree, Trees, node, none, more, binders, has_text}

-- these names, and another one where it is not among them
abbrev pub with_name : Text → List Text → List Text
with_name x xs = elim (has_text x xs) [ true ↦ xs | false ↦ xs ++ x ∷ [] ]

-- these names, and another one where nothing binds it
abbrev pub with_free : List Text → List Text → Text → List Text
with_free bound xs x = elim (has_text x bound) [ true ↦ xs | false ↦ with_name x xs ]

abbrev mutual
  -- these names, and behind them those that a term leaves free, in text order, each once
  pub free_in : List Text → List Text → Tree → List Text
  free_in bound xs (node (Var x) ts) = with_free bound xs x
  free_in bound xs (node h ts) = free_below bound xs (binders h) ts

  pub free_below : List Text → List Text → List (List Text) → Trees → List Text
  free_below bound xs names none = xs
  free_below bound xs [] (more t ts) = free_below bound (free_in bound xs t) [] ts
  free_below bound xs (ys ∷ names) (more t ts) = free_below bound (free_in (bound ++ ys) xs t) names ts
