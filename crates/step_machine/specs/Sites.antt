-- Where a machine stands before the next contraction, and what it becomes at redexes that need no frame.
use Rattle.std.specs.Prelude.{◌≡◌, ℕ, ℤ, ◌+◌, Bool, true, false, List, [], ◌∷◌, ◌++◌}
use Rattle.asp_model.specs.Shapes.{sign_shape}
use Rattle.asp_model.specs.Term.{Get, Head, Number, Operate, Tree, none, loc}
use Rattle.asp_model.specs.Split.{Context, Redex, Splits, split, plug}
use Rattle.asp_model.specs.Configuration.{ServiceShape}
use Rattle.code_table.specs.declared.code.Child.{Child}
use Rattle.code_table.specs.declared.code.Kind.TheVariants as kind
use Rattle.code_table.specs.declared.code.Leaf.{Leaf}
use Rattle.code_table.specs.declared.code.Node.{Node}
use Rattle.code_table.specs.Classes.{class_at, class_of}
use Rattle.code_table.specs.Pieces.{Piece, variable}
use Rattle.code_table.specs.Tables.{node_piece, piece_at, pieces, pieces_of}
use Rattle.code_laws.specs.Nodes.{nth}
use Rattle.code_laws.specs.Places.{leaf_place}
use Rattle.step_machine.specs.declared.frames.Focus.TheVariants as focus
use Rattle.step_machine.specs.declared.frames.Nested.{Nested}
use Rattle.step_machine.specs.declared.frames.Nested.TheVariants as nested
use Rattle.step_machine.specs.declared.frames.Site.{Site}
use Rattle.step_machine.specs.declared.frames.Site.TheVariants as site
use Rattle.step_machine.specs.Standing.{View, Standing}
use Rattle.step_machine.specs.Views.{Settled}

-- A redex below a node

-- the term that is next below a node became a place
abbrev pub given_view : (number from done place : ℕ) → View → View
given_view number from done place v = record v { operands = v.operands ++ place ∷ []; focus = focus.Node number from (done + 1) }

-- the redex of the term is this one, and each place may take its place below the node
pub record Gives (k : List Node) (t : Tree) (vs : List ServiceShape) (v : View) (number from done : ℕ) (r : Redex) : Type 0 where
  pub contexts : List Context
  pub splits : split t ≡ Splits contexts r
  pub place : (p : ℕ) → Standing k (given_view number from done p v) (plug contexts (loc p)) vs

-- a redex of places alone
abbrev pub places_redex : Head → List ℕ → Redex
places_redex h ns = record { head = h; places = ns; behind = none }

abbrev pub number_redex : ℤ → Redex
number_redex z = places_redex (Number z) []

-- the redex of the term is this number, and behind it, at each place that it becomes, comes another redex
pub record GivesTwo (k : List Node) (t : Tree) (vs : List ServiceShape) (v : View) (number from done : ℕ) (z : ℤ) (r : ℕ → Redex) : Type 0 where
  pub contexts : List Context
  pub splits : split t ≡ Splits contexts (number_redex z)
  pub second : (p : ℕ) → Gives k (plug contexts (loc p)) vs v number from done (r p)

-- the redex of the next term below the node, and the one behind it if that is known
abbrev pub IsNested : List Node → Tree → List ServiceShape → View → (number from done : ℕ) → Nested → Type 0
IsNested k t vs v number from done (nested.Number z) = Gives k t vs v number from done (number_redex z)
IsNested k t vs v number from done (nested.Get l p) = Gives k t vs v number from done (places_redex (Get l.now.label.text) (p ∷ []))
IsNested k t vs v number from done (nested.Operate s p q) = Gives k t vs v number from done (places_redex (Operate (sign_shape s)) (p ∷ q ∷ []))
IsNested k t vs v number from done (nested.OperateNumber s p z) = GivesTwo k t vs v number from done z (λ q. places_redex (Operate (sign_shape s)) (p ∷ q ∷ []))

-- The nodes of such redexes

-- a term below a node is a variable, which has this place
pub record IsVariable (ps : List Piece) (ns : List ℕ) (cs : List Child) (i p : ℕ) : Type 0 where
  pub leaf : Leaf
  pub is : nth i (pieces_of ps cs) ≡ variable leaf
  pub place : p ≡ leaf_place ns leaf

-- the node with this number is a number
pub record IsNumber (k : List Node) (i : ℕ) (z : ℤ) : Type 0 where
  pub node : Node
  pub is : piece_at (pieces k) i ≡ node_piece (pieces k) node
  pub number : node.kind ≡ kind.Number z

-- a term below a node is a number
pub record IsNumberBelow (k : List Node) (cs : List Child) (i : ℕ) (z : ℤ) : Type 0 where
  pub inner : ℕ
  pub is : nth i (pieces_of (pieces k) cs) ≡ piece_at (pieces k) inner
  pub number : IsNumber k inner z

-- the redex of a node in an environment
abbrev pub IsRedexOf : List Node → List ℕ → Node → Nested → Type 0
IsRedexOf k ns n (nested.Number z) = n.kind ≡ kind.Number z
IsRedexOf k ns n (nested.Get l p) = (n.kind ≡ kind.Get l.now) × IsVariable (pieces k) ns n.children.items 0 p
IsRedexOf k ns n (nested.Operate s p q) = (n.kind ≡ kind.Operate s) × IsVariable (pieces k) ns n.children.items 0 p × IsVariable (pieces k) ns n.children.items 1 q
IsRedexOf k ns n (nested.OperateNumber s p z) = (n.kind ≡ kind.Operate s) × IsVariable (pieces k) ns n.children.items 0 p × IsNumberBelow k n.children.items 1 z

-- Where it stands

-- the node with this number
pub record IsNodeAt (k : List Node) (number : ℕ) (n : Node) : Type 0 where
  pub piece : piece_at (pieces k) number ≡ node_piece (pieces k) n
  pub class : class_at k number ≡ class_of n.kind

abbrev pub IsSite : List Node → Tree → List ServiceShape → View → Site → Type 0
IsSite k t vs v (site.Redex n number from done) =
    Settled k t vs v × (v.focus ≡ focus.Node number from done) × IsNodeAt k number n.now
IsSite k t vs v (site.Nested number from done r) = Standing k v t vs × IsNested k t vs v number from done r
IsSite k t vs v site.Other = Standing k v t vs

-- the next contraction is known
abbrev pub is_found : Site → Bool
is_found site.Other = false
is_found s = true
