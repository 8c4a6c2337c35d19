-- What the code has of names: the set of places, and terms with variables for their places.
use Rattle.std.specs.Prelude.{ℕ, ◌<◌, ◌^◌, List}
use Rattle.std.specs.Fmt.{decimal}
use Rattle.std.specs.List.{AllByRecursion}
use Rattle.asp_model.specs.declared.term.Method.{Method}
use Rattle.asp_model.specs.declared.term.Term.{Term}
use Rattle.asp_model.specs.declared.word.Label.{Label}
use Rattle.asp_model.specs.Shapes.{tree_of}
use Rattle.asp_model.specs.Term.{Tree}
use Rattle.code_table.specs.Parts.{body_tree, field_tree}
use Rattle.frozen_code.specs.Named.{named}
use Rattle.term_opening.specs.Naming.{Seen}
use Rattle.term_opening.specs.declared.naming.Naming.TheInside.{Inside}

abbrev pub seen_of : Inside → Seen
seen_of n = record { places = n.places.keys; clash = n.clash }

-- places of a store in memory
abbrev pub AreSmall : List ℕ → Type 0
AreSmall = AllByRecursion (λ n. n < 2 ^ 64)

abbrev pub named_tree : Tree → Tree
named_tree = named decimal

abbrev pub AreSmallKeys : Inside → Type 0
AreSmallKeys n = AreSmall n.places.keys

abbrev pub named_term : Term → Tree
named_term t = named_tree (tree_of t)

abbrev pub named_field : Label × Term → Tree
named_field f = named_tree (field_tree f)

abbrev pub named_body : Method → Tree
named_body m = named_tree (body_tree m)
