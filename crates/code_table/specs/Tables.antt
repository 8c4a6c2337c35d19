-- What a table of nodes stands for: a piece for each of its numbers.
use Rattle.std.specs.Prelude.{ℕ, ◌==◌, Bool, true, false, List, [], ◌∷◌, length, map, take, drop}
use Rattle.std.specs.Option.{option_map}
use Rattle.asp_model.specs.declared.word.Label.{Label}
use Rattle.asp_model.specs.Names.{Text}
use Rattle.asp_model.specs.Term.{Head, MethodHead, Hole, Number, Make, Get, Put, Call, Clone, Active, Serve, Let, Steps, If, Repeat, Operate, Print, Echo, Scatter, Size, Member, WaitAll, Pending, loc}
use Rattle.asp_model.specs.Term as term
use Rattle.asp_model.specs.Shapes.{sign_shape}
use Rattle.asp_model.specs.Store.{MethodShape, CellShape, Object}
use Rattle.asp_model.specs.Contraction.{fields_at}
use Rattle.code_table.specs.declared.code.Child.{Child}
use Rattle.code_table.specs.declared.code.Child.TheVariants as child
use Rattle.code_table.specs.declared.class.Class.{Class}
use Rattle.code_table.specs.declared.code.Kind.{Kind}
use Rattle.code_table.specs.declared.code.Kind.TheVariants as kind
use Rattle.code_table.specs.declared.code.MethodCode.{MethodCode}
use Rattle.code_table.specs.declared.code.Node.{Node}
use Rattle.code_table.specs.Pieces.{Piece, variable, piece, object, Pieces, nothing, also, Bodies, no_method, method, tree}

-- Numbers of nodes

abbrev pub this_or : Bool → Piece → Piece → Piece
this_or true p q = p
this_or false p q = q

-- the piece with a number, among pieces of which the last one stands first
abbrev pub piece_at : List Piece → ℕ → Piece
piece_at [] i = piece Hole nothing
piece_at (p ∷ ps) i = this_or (i == length ps) p (piece_at ps i)

abbrev pub piece_of : List Piece → Child → Piece
piece_of ps (child.Leaf l) = variable l
piece_of ps (child.Node i) = piece_at ps i

abbrev pub pieces_of : List Piece → List Child → Pieces
pieces_of ps [] = nothing
pieces_of ps (c ∷ cs) = also (piece_of ps c) (pieces_of ps cs)

-- Classes

abbrev pub text_of : Label → Text
text_of l = l.text

abbrev pub labels_of : Class → List Text
labels_of k = map text_of k.fields.items

abbrev pub head_of : MethodCode → MethodHead
head_of m = record { label = m.label.text; slf = m.slf; parameters = m.parameters.items }

abbrev pub bodies_of : List Piece → List MethodCode → Bodies
bodies_of ps [] = no_method
bodies_of ps (m ∷ ms) = method (head_of m) m.captured.items (piece_of ps m.body) (bodies_of ps ms)

-- Nodes

abbrev pub kind_head : Kind → Head
kind_head (kind.Number n) = Number n
kind_head (kind.Make k) = Make [] []
kind_head (kind.Get l) = Get l.label.text
kind_head (kind.Put l) = Put l.label.text
kind_head (kind.Call l) = Call l.label.text
kind_head kind.Clone = Clone
kind_head (kind.Active l) = Active (option_map text_of l)
kind_head (kind.Serve ls) = Serve (map text_of ls.items)
kind_head (kind.Let x) = Let x
kind_head kind.Steps = Steps
kind_head kind.If = If
kind_head kind.Repeat = Repeat
kind_head (kind.Operate s) = Operate (sign_shape s)
kind_head kind.Print = Print
kind_head (kind.Echo x) = Echo x
kind_head kind.Group = term.Group
kind_head (kind.Scatter l) = Scatter l.label.text
kind_head kind.Size = Size
kind_head kind.Member = Member
kind_head kind.WaitAll = WaitAll
kind_head (kind.Pending ls) = Pending (map text_of ls.items)

abbrev pub kind_piece : List Piece → Kind → Pieces → Piece
kind_piece ps (kind.Make k) us = object (labels_of k.value) us (bodies_of ps k.value.methods.items)
kind_piece ps k us = piece (kind_head k) us

abbrev pub node_piece : List Piece → Node → Piece
node_piece ps n = kind_piece ps n.kind (pieces_of ps n.children.items)

-- the pieces of nodes behind others
abbrev pub forest : List Piece → List Node → List Piece
forest ps [] = ps
forest ps (n ∷ ns) = forest (node_piece ps n ∷ ps) ns

abbrev pub pieces : List Node → List Piece
pieces ns = forest [] ns

-- Objects

-- a method over the places that it captured
abbrev pub with_places : List Piece → MethodCode → List ℕ → MethodShape
with_places ps m ns = record { head = head_of m; body = tree (map loc ns) (piece_of ps m.body) }

-- a method over what it captured among the places of its object
abbrev pub placed_method : List Piece → MethodCode → List ℕ → MethodShape
placed_method ps m ns = with_places ps m (take (length m.captured.items) (drop m.start ns))

-- methods over the places that they captured, each method's behind the one before
abbrev pub seen_methods : List Piece → List MethodCode → List ℕ → List MethodShape
seen_methods ps [] ns = []
seen_methods ps (m ∷ ms) ns = with_places ps m (take (length m.captured.items) ns) ∷ seen_methods ps ms (drop (length m.captured.items) ns)

-- an object of a class: its fields' places, then what its methods captured
abbrev pub object_of : List Piece → Class → List ℕ → CellShape
object_of ps k ns = Object (fields_at (labels_of k) ns) (seen_methods ps k.methods.items (drop (length k.fields.items) ns))
