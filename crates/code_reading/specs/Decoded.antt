-- What terms that are decoded are, by the code that they come from.
use Rattle.std.specs.Prelude.{◌≡◌, ◌<◌, ◌≤◌, ℕ, zero, suc, Option, Some, None, List, [], ◌∷◌, ◌++◌, length, map}
use Rattle.asp_model.specs.Names.{Text}
use Rattle.asp_model.specs.Term.{Hole, Var, Make, Steps, Tree, Trees, node, none, more, trees, leaf, loc, Environment}
use Rattle.asp_model.specs.Split.{plugged}
use Rattle.code_table.specs.declared.code.Child.{Child}
use Rattle.code_table.specs.declared.code.Child.TheVariants as child
use Rattle.code_table.specs.declared.code.Kind.{Kind}
use Rattle.code_table.specs.declared.code.Kind.TheVariants as kind
use Rattle.code_table.specs.declared.code.MethodCode.{MethodCode}
use Rattle.code_table.specs.Pieces.{Piece, Pieces, count}
use Rattle.code_table.specs.Fitting.{Runs, term_in}
use Rattle.code_table.specs.Tables.{head_of, kind_head, labels_of, piece_of}
use Rattle.code_laws.specs.Nodes.{head_in, parts, nth, rest, in_place, redex_in, context_in}
use Rattle.code_laws.specs.Shown.{shown, shown_captures, shown_terms}
use Rattle.code_laws.specs.Splitting.{redex_node}
use Rattle.code_reading.specs.declared.seen.Seen.{Seen}
use Rattle.code_reading.specs.declared.seen.Seen.TheVariants as seen

abbrev pub seen_tree : Seen → Tree
seen_tree (seen.Place n) = loc n
seen_tree (seen.Name x) = leaf (Var x.now)
seen_tree seen.Nothing = leaf Hole

-- these terms before others
abbrev pub trees_then : List Tree → Trees → Trees
trees_then [] us = us
trees_then (t ∷ ts) us = more t (trees_then ts us)

-- what stands below a node, and the bodies of methods, over these trees
abbrev pub shown_child : List Tree → List Piece → Child → Tree
shown_child ts ps c = shown ts (piece_of ps c)

abbrev pub shown_body : List Tree → List Piece → MethodCode → Tree
shown_body ts ps m = shown (shown_captures ts m.captured.items) (piece_of ps m.body)

-- how far a term below a node reaches into a table
abbrev pub rank : Child → ℕ
rank (child.Leaf l) = 0
rank (child.Node i) = suc i

-- a node over the terms of its children, and the bodies of its methods
abbrev pub finished_tree : List Tree → List Piece → Kind → List Tree → Tree
finished_tree ts ps (kind.Make k) us = node (Make (labels_of k.value) (map head_of k.value.methods.items)) (trees_then us (trees (map (shown_body ts ps) k.value.methods.items)))
finished_tree ts ps k us = node (kind_head k) (trees us)

-- how many of the terms below a node are gone, where so many were done before; none is told of a `repeat` that has become a sequence
abbrev pub gone : Kind → ℕ → Option ℕ
gone kind.Steps n = Some n
gone kind.Repeat zero = Some 0
gone kind.Repeat (suc n) = None
gone k n = Some 0

-- a node over its first terms, and what stands behind as many
abbrev pub behind_tree : List Tree → Piece → List Tree → Tree
behind_tree ts p us = node (head_in p) (trees_then us (rest (length us) (shown_terms ts p)))

abbrev pub IsBehind : List Tree → Piece → List Tree → Tree → Type 0
IsBehind ts p us t = length us ≤ count (parts p) → t ≡ behind_tree ts p us

-- a sequence of these terms, and then a piece
abbrev pub rolled_tree : List Tree → Piece → List Tree → Tree
rolled_tree ts p us = node Steps (trees (us ++ shown ts p ∷ []))

-- what a `repeat` with these terms below it has become, over its first terms
abbrev pub IsRolled : List Tree → Pieces → Piece → List Tree → Tree → Type 0
IsRolled ts below p us t = length us ≤ 2 → t ≡ node Steps (trees_then us (rest (length us) (more (shown ts (nth 0 below)) (more (shown ts p) none))))

-- Environments

-- the term of a piece that may run in an environment of these places
abbrev pub IsTermIn : List ℕ → Piece → Tree → Type 0
IsTermIn ns p t = (xs : List Text) (scope : Environment) → Runs xs scope ns p → t ≡ term_in xs scope ns p

-- a node of which the first terms are done, round a hole in the place of the next one
abbrev pub IsContextIn : List ℕ → List ℕ → Piece → Tree → Type 0
IsContextIn ns done p t = (xs : List Text) (scope : Environment) → Runs xs scope ns p → length done < in_place p → t ≡ plugged (context_in xs scope ns p done) (leaf Hole)

-- a node of which the first terms are done
abbrev pub IsRedexIn : List ℕ → List ℕ → Piece → Tree → Type 0
IsRedexIn ns done p t = (xs : List Text) (scope : Environment) → Runs xs scope ns p → length done ≤ in_place p → t ≡ redex_node (redex_in xs scope ns p done)
