-- The places of terms, and whether a name of these terms begins with a digit.
use Rattle.std.specs.Prelude.{ℕ, ◌||◌, Bool, true, false, List, [], ◌∷◌, ◌++◌}
use Rattle.std.specs.Char.{is_ascii_digit}
use Rattle.asp_model.specs.Names.{Text}
use Rattle.asp_model.specs.Parcel.{has_place}
use Rattle.asp_model.specs.Term.{Loc, Var, Tree, Trees, node, none, more, binders}

pub record Seen : Type 0 where
  -- each once, in the order in which they came
  pub places : List ℕ
  -- one of the names begins with a digit, as the names of places do
  pub clash : Bool

-- these places, and another one where it is not among them
abbrev pub with_new : ℕ → List ℕ → List ℕ
with_new n ps = elim (has_place n ps) [ true ↦ ps | false ↦ ps ++ n ∷ [] ]

abbrev pub with_place : ℕ → Seen → Seen
with_place n s = record s { places = with_new n s.places }

abbrev pub begins_with_digit : Text → Bool
begins_with_digit [] = false
begins_with_digit (b ∷ bs) = is_ascii_digit b

abbrev pub with_name : Text → Seen → Seen
with_name x s = record s { clash = s.clash || begins_with_digit x }

abbrev pub with_names : List Text → Seen → Seen
with_names [] s = s
with_names (x ∷ xs) s = with_names xs (with_name x s)

abbrev mutual
  -- with the places of a term, in text order, and the names of its variables, free or bound
  pub noted : Seen → Tree → Seen
  noted s (node (Loc n) ts) = with_place n s
  noted s (node (Var x) ts) = with_name x s
  noted s (node h ts) = noted_below s (binders h) ts

  pub noted_below : Seen → List (List Text) → Trees → Seen
  noted_below s names none = s
  noted_below s [] (more t ts) = noted_below (noted s t) [] ts
  noted_below s (xs ∷ names) (more t ts) = noted_below (noted (with_names xs s) t) names ts
