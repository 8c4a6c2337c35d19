-- Tables that are a program's code.
use Rattle.std.specs.Prelude.{◌≡◌, ℕ, suc, ◌+◌, ◌<◌, ◌-◌, List, [], ◌∷◌, length}
use Rattle.asp_model.specs.Term.{Serve, Repeat}
use Rattle.code_table.specs.declared.code.Child.{Child}
use Rattle.code_table.specs.declared.code.Child.TheVariants as child
use Rattle.code_table.specs.declared.code.Kind.{Kind}
use Rattle.code_table.specs.declared.code.Kind.TheVariants as kind
use Rattle.code_table.specs.declared.code.MethodCode.{MethodCode}
use Rattle.code_table.specs.declared.code.Node.{Node}
use Rattle.code_table.specs.Pieces.{Piece, piece, object, nothing, also, no_method}
use Rattle.code_table.specs.Fitting.{Fits, captured_names, body_scope, body_height}
use Rattle.code_table.specs.Uses.{uses}
use Rattle.code_table.specs.Tables.{piece_at, piece_of, pieces, head_of}

-- The order of nodes

abbrev pub IsBelow : ℕ → Child → Type 0
IsBelow m (child.Leaf l) = Unit {0}
IsBelow m (child.Node i) = i < m

abbrev pub AllBelow : ℕ → List Child → Type 0
AllBelow m [] = Unit {0}
AllBelow m (c ∷ cs) = IsBelow m c × AllBelow m cs

abbrev pub MethodsBelow : ℕ → List MethodCode → Type 0
MethodsBelow m [] = Unit {0}
MethodsBelow m (x ∷ xs) = IsBelow m x.body × MethodsBelow m xs

abbrev pub KindBelow : ℕ → Kind → Type 0
KindBelow m (kind.Make k) = MethodsBelow m k.value.methods.items
KindBelow m k = Unit {0}

-- the terms below a node, and the bodies of an object's methods, stand before it
abbrev pub IsOrdered : ℕ → List Node → Type 0
IsOrdered m [] = Unit {0}
IsOrdered m (n ∷ ns) = AllBelow m n.children.items × KindBelow m n.kind × IsOrdered (suc m) ns

-- The methods of objects

-- a method's body may run behind what it captured, its object and its arguments, and its uses are those of the body
pub record IsSoundMethod (ps : List Piece) (m : MethodCode) : Type 0 where
  pub fits : Fits (captured_names m.captured.items) (body_scope m.captured.items (head_of m)) (body_height m.captured.items (head_of m)) (piece_of ps m.body)
  pub uses : m.uses.items ≡ uses (piece_of ps m.body)

abbrev pub MethodsSound : List Piece → List MethodCode → Type 0
MethodsSound ps [] = Unit {0}
MethodsSound ps (m ∷ ms) = IsSoundMethod ps m × MethodsSound ps ms

-- what methods captured stands behind each other among the places of an object, from a number on
abbrev pub StartFrom : ℕ → List MethodCode → Type 0
StartFrom k [] = Unit {0}
StartFrom k (m ∷ ms) = (m.start ≡ k) × StartFrom (k + length m.captured.items) ms

abbrev pub KindSound : List Piece → Kind → Type 0
KindSound ps (kind.Make k) = MethodsSound ps k.value.methods.items × StartFrom (length k.value.fields.items) k.value.methods.items
KindSound ps k = Unit {0}

abbrev pub ClassesSound : List Piece → List Node → Type 0
ClassesSound ps [] = Unit {0}
ClassesSound ps (n ∷ ns) = KindSound ps n.kind × ClassesSound ps ns

-- Code

-- the program stands last
abbrev pub root_of : List Node → ℕ
root_of ns = length ns - 1

-- where what every run needs stands: a `serve()`, its repetition, and the object `[]`
abbrev pub serve_number : ℕ
serve_number = 0

abbrev pub service_number : ℕ
service_number = 1

abbrev pub empty_number : ℕ
empty_number = 2

pub record IsSound (ns : List Node) : Type 0 where
  pub ordered : IsOrdered 0 ns
  pub classes : ClassesSound (pieces ns) ns
  pub serve : piece_at (pieces ns) serve_number ≡ piece (Serve []) nothing
  pub service : piece_at (pieces ns) service_number ≡ piece Repeat (also (piece (Serve []) nothing) nothing)
  pub empty : piece_at (pieces ns) empty_number ≡ object [] nothing no_method
  pub root : Fits [] [] 0 (piece_at (pieces ns) (root_of ns))
