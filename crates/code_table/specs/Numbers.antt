-- The numbers of labels.
use Rattle.std.specs.Prelude.{◌≡◌, ℕ, suc, true, false, List, [], ◌∷◌, Option, Some, None}
use Rattle.std.specs.Option.{option_map, ForSome}
use Rattle.std.specs.BTreeMap.{is_at}
use Rattle.std.specs.Map.{lookup}
use Rattle.std.specs.declared.cmp.Ordering.{Ordering}
use Rattle.asp_model.specs.declared.word.Label.{Label}
use Rattle.asp_model.specs.contracts.word.LabelOrd.TheImpl as ordering
use Rattle.asp_model.specs.Names.{Text, same_text}

-- the number of the first of these labels that is this one
abbrev pub number_of : Text → List Text → Option ℕ
number_of l [] = None
number_of l (x ∷ xs) = elim (same_text l x) [ true ↦ Some 0 | false ↦ option_map suc (number_of l xs) ]

abbrev pub label_order : Label → Label → Ordering
label_order = ordering.ghosts.cmp

-- the number of a label in these pairs
abbrev pub number_in : List (Label × ℕ) → Label → Option ℕ
number_in es l = lookup (is_at (label_order l)) es

-- the pairs have the number of each of these labels, and of no other
abbrev pub AreNumbers : List Text → List (Label × ℕ) → Type 0
AreNumbers ls es = (l : Label) → number_in es l ≡ number_of l.text ls

-- these pairs, where there are some, have the numbers of these labels
abbrev pub HaveNumbers : List Text → Option (List (Label × ℕ)) → Type 0
HaveNumbers ls o = ForSome o (AreNumbers ls)
