-- What compiling a term adds to a table.
use Rattle.std.specs.Prelude.{◌≡◌, ℕ, suc, ◌+◌, ◌≤◌, Bool, true, false, List, [], ◌∷◌, ◌++◌, length, map}
use Rattle.std.specs.Global.{Vec}
use Rattle.std.specs.List.{flat_map}
use Rattle.asp_model.specs.Names.{Text}
use Rattle.asp_model.specs.Term.{MethodHead, Serve, Repeat, Var, Tree, none, leaf, trees, Environment, has_text}
use Rattle.asp_model.specs.Marked.{MarkedList}
use Rattle.asp_model.specs.Readable.{HasArity}
use Rattle.code_table.specs.declared.code.Child.{Child}
use Rattle.code_table.specs.declared.code.Child.TheVariants as child
use Rattle.code_table.specs.declared.code.Kind.{Kind}
use Rattle.code_table.specs.declared.code.Kind.TheVariants as kind
use Rattle.code_table.specs.declared.code.MethodCode.{MethodCode}
use Rattle.code_table.specs.declared.code.Node.{Node}
use Rattle.code_table.specs.Pieces.{piece, object, Pieces, nothing, also, no_method, tree, below, bodies}
use Rattle.code_table.specs.Fitting.{names, Fits, captured_names, AllFit, BodiesFit, CapturesFit}
use Rattle.code_table.specs.Uses.{use_at, uses_below, uses_in}
use Rattle.code_table.specs.Tables.{piece_at, pieces_of, bodies_of, pieces, kind_head, head_of}
use Rattle.code_table.specs.Marks.{HaveMarks}
use Rattle.code_table.specs.Sound.{IsOrdered, ClassesSound, AllBelow, MethodsBelow, MethodsSound, StartFrom, root_of, serve_number, service_number, empty_number}

-- Bodies

-- a body on its way into code: what it captured, the names bound in it with their slots, the innermost first,
-- and the slots of captured places that its code has so far
pub record Body : Type 0 where
  pub captured : List Text
  pub bound : Environment
  pub uses : List ℕ

abbrev pub scope_of : Body → Environment
scope_of b = b.bound

-- all names that a body may use
abbrev pub names_in : Body → List Text
names_in b = names b.bound ++ b.captured

-- how many slots it has
abbrev pub height_of : Body → ℕ
height_of b = length b.captured + length b.bound

pub record SameScope (a b : Body) : Type 0 where
  pub captured : b.captured ≡ a.captured
  pub bound : b.bound ≡ a.bound

-- each of these names is among those
abbrev pub AreAmong : List Text → List Text → Type 0
AreAmong xs [] = Unit {0}
AreAmong xs (y ∷ ys) = (has_text y xs ≡ true) × AreAmong xs ys

-- Nodes

-- a node of this kind binds no names in the so many terms below it, and makes no object
abbrev pub IsPlain : Kind → ℕ → Type 0
IsPlain (kind.Make k) n = ⊥
IsPlain (kind.Let x) n = ⊥
IsPlain k n = HasArity (kind_head k) n

-- a kind whose nodes bind no name, and make no object
abbrev pub is_plain : Kind → Bool
is_plain (kind.Make k) = false
is_plain (kind.Let x) = false
is_plain k = true

-- the table as far as it was made
pub record IsTable (ns : List Node) : Type 0 where
  pub ordered : IsOrdered 0 ns
  pub classes : ClassesSound (pieces ns) ns

pub record Grows (ns ms : List Node) : Type 0 where
  pub added : List Node
  pub grown : ms ≡ ns ++ added
  pub table : IsTable ns → IsTable ms

-- a node of this kind over these terms, which stood at this byte, stands behind others
pub record IsPut (ns ms : List Node) (k : Kind) (below : Vec Child) (at : ℕ) : Type 0 where
  pub node : Node
  pub pushed : ms ≡ ns ++ node ∷ []
  pub kind_is : node.kind ≡ k
  pub below_is : node.children ≡ below
  pub mark_is : node.mark ≡ at

-- What is added

-- the variables of these names
abbrev pub variables : List Text → List Tree
variables xs = map (λ x. leaf (Var x)) xs

-- pieces that stand for these terms, where so much is captured and bound
pub record StandFor (xs : List Text) (bs : Environment) (ps : Pieces) (ts : List Tree) : Type 0 where
  pub terms : below (variables xs) ps none ≡ trees ts
  pub fits : AllFit xs bs (length xs + length bs) [] ps

-- the children of these terms stand behind others, and the slots that they use behind others
pub record Adds (a b : Body) (ns ms : List Node) (cs ds : List Child) (ts : List Tree) : Type 0 where
  pub same : SameScope a b
  pub grows : Grows ns ms
  pub new : List Child
  pub children : ds ≡ cs ++ new
  pub before : AllBelow (length ms) new
  pub stand : StandFor a.captured a.bound (pieces_of (pieces ms) new) ts
  pub uses : b.uses ≡ a.uses ++ uses_below (pieces_of (pieces ms) new)

-- children stand behind others, and their nodes have the bytes where those of these terms stood
pub record AddsMarks (ms : List Node) (cs ds : List Child) (ts : MarkedList) : Type 0 where
  pub new : List Child
  pub children : ds ≡ cs ++ new
  pub marks : HaveMarks ms new ts

-- the last of these children, where it is a node, is the last one of the table
abbrev pub EndsTable : ℕ → List Child → Type 0
EndsTable m [] = Unit {0}
EndsTable m (child.Leaf l ∷ []) = Unit {0}
EndsTable m (child.Node i ∷ []) = suc i ≡ m
EndsTable m (c ∷ d ∷ cs) = EndsTable m (d ∷ cs)

-- Methods

abbrev pub heads_of_code : List MethodCode → List MethodHead
heads_of_code ms = map head_of ms

-- what a method's body uses of what was captured round its object
abbrev pub passed_uses : MethodCode → List ℕ
passed_uses m = flat_map (use_at m.captured.items) m.uses.items

-- how many places methods captured
abbrev pub captured_count : List MethodCode → ℕ
captured_count [] = 0
captured_count (m ∷ ms) = length m.captured.items + captured_count ms

-- the code of methods, whose captured places begin at a number of their object's
pub record AddsMethods (a b : Body) (ns ms : List Node) (start : ℕ) (codes : List MethodCode) (heads : List MethodHead) (ts : List Tree) : Type 0 where
  pub same : SameScope a b
  pub grows : Grows ns ms
  pub heads_are : heads_of_code codes ≡ heads
  pub terms : bodies (variables a.captured) (bodies_of (pieces ms) codes) ≡ trees ts
  pub before : MethodsBelow (length ms) codes
  pub fits : BodiesFit a.captured (scope_of a) (bodies_of (pieces ms) codes)
  pub sound : MethodsSound (pieces ms) codes
  pub starts : StartFrom start codes
  pub uses : b.uses ≡ a.uses ++ uses_in (bodies_of (pieces ms) codes)

-- a method as an object of the body a makes it, with what it captured and what its own body used
pub record IsMethod (a b : Body) (captured : List Text) (used : List ℕ) (start : ℕ) (head : MethodHead) (code : Child) (m : MethodCode) : Type 0 where
  pub head_is : head_of m ≡ head
  pub names_are : captured_names m.captured.items ≡ captured
  pub fit : CapturesFit a.captured (scope_of a) m.captured.items
  pub uses_are : m.uses.items ≡ used
  pub start_is : m.start ≡ start
  pub code_is : m.body ≡ code
  pub same : SameScope a b
  pub passed : b.uses ≡ a.uses ++ passed_uses m

-- Programs

-- the nodes with which every table begins
pub record IsPrelude (ns : List Node) : Type 0 where
  pub table : IsTable ns
  pub three : 3 ≤ length ns
  pub serve : piece_at (pieces ns) serve_number ≡ piece (Serve []) nothing
  pub service : piece_at (pieces ns) service_number ≡ piece Repeat (also (piece (Serve []) nothing) nothing)
  pub empty : piece_at (pieces ns) empty_number ≡ object [] nothing no_method

-- a table whose last node stands for this term, over nothing captured
pub record IsRoot (ns : List Node) (t : Tree) : Type 0 where
  pub fits : Fits [] [] 0 (piece_at (pieces ns) (root_of ns))
  pub term : tree [] (piece_at (pieces ns) (root_of ns)) ≡ t
