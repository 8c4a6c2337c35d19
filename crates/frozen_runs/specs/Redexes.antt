-- Terms that are redexes: all terms that are reduced in place are places.
use Rattle.std.specs.Prelude.{ℕ, zero, suc, ◌&&◌, ◌||◌, Bool, true, false, List, [], ◌∷◌}
use Rattle.asp_model.specs.declared.word.Label.{Label}
use Rattle.asp_model.specs.declared.term.Term.{Term}
use Rattle.asp_model.specs.Shapes.{tree_of}
use Rattle.asp_model.specs.Term.{Loc, Tree, Trees, node, none, more}
use Rattle.asp_model.specs.Split.{reduced_count}

-- a place
abbrev pub is_bare : Tree → Bool
is_bare (node (Loc n) none) = true
is_bare t = false

abbrev pub is_bare_term : Term → Bool
is_bare_term t = is_bare (tree_of t)

abbrev pub is_bare_field : Label × Term → Bool
is_bare_field f = is_bare (tree_of f.1)

-- the first of these terms are places, as far as there are so many
abbrev pub are_places : ℕ → Trees → Bool
are_places zero ts = true
are_places (suc n) none = true
are_places (suc n) (more t ts) = is_bare t && are_places n ts

abbrev pub is_redex_tree : Tree → Bool
is_redex_tree (node (Loc n) ts) = false
is_redex_tree (node h ts) = are_places (reduced_count h ts) ts

-- the first is a redex, or there is one alone, which is a place
abbrev pub is_split : List Tree → Bool
is_split [] = false
is_split (t ∷ []) = is_redex_tree t || is_bare t
is_split (t ∷ u ∷ us) = is_redex_tree t
