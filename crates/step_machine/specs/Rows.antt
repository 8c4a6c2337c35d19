-- Where a machine stands at a redex, and what it becomes at a row.
use Rattle.std.specs.Prelude.{◌≡◌, ℕ, ℤ, pos, negsuc, zero, suc, Bool, true, false, List, [], ◌∷◌, ◌++◌, length, drop, take, reverse}
use Rattle.asp_model.specs.Term.{Tree, If, none, more, loc}
use Rattle.asp_model.specs.Split.{Context, Redex, Splits, split, plug}
use Rattle.asp_model.specs.Store.{Store}
use Rattle.asp_model.specs.Contraction.{LineShape, Becomes, contract}
use Rattle.asp_model.specs.Configuration.{ServiceShape}
use Rattle.code_table.specs.declared.code.Child.{Child}
use Rattle.code_table.specs.declared.code.Child.TheVariants as child
use Rattle.code_table.specs.declared.code.Kind.{Kind}
use Rattle.code_table.specs.declared.code.Kind.TheVariants as kind
use Rattle.code_table.specs.declared.code.Node.{Node}
use Rattle.code_table.specs.Tables.{pieces, piece_at, node_piece}
use Rattle.code_laws.specs.Places.{leaf_place}
use Rattle.code_laws.specs.Nodes.{in_place}
use Rattle.step_machine.specs.declared.frames.Focus.{Focus}
use Rattle.step_machine.specs.declared.frames.Focus.TheVariants as focus
use Rattle.step_machine.specs.Stacks.{piece_from, last, but_last, top}
use Rattle.step_machine.specs.Standing.{View, Standing}

-- where a child leads in an environment
abbrev pub toward : List ℕ → Child → Focus
toward ns (child.Leaf l) = focus.Place (leaf_place ns l)
toward ns (child.Node i) = focus.Node i 0 0

-- the last n operands are gone
abbrev pub without_last : ℕ → View → View
without_last n v = record v { operands = but_last n v.operands }

-- a redex of n operands has become a place
abbrev pub place_view : ℕ → ℕ → View → View
place_view n place v = record (without_last n v) { focus = focus.Place place }

-- it has become a child
abbrev pub child_view : ℕ → Child → View → View
child_view n c v = record (without_last n v) { focus = toward (drop v.base v.env) c }

-- it has become a node whose first terms are gone
abbrev pub node_view : (n number from : ℕ) → View → View
node_view n number from v = record (without_last n v) { focus = focus.Node number from 0 }

-- the child stands in the environment with one place more
abbrev pub bound_view : (n place : ℕ) → Child → View → View
bound_view n place c v = child_view n c (record v { env = v.env ++ place ∷ [] })

-- what was captured and the last operands stand in an environment of their own, behind what the frames need
abbrev pub environment_view : (n : ℕ) → (captured : List ℕ) → View → View
environment_view n cs v =
    let low = take (top (reverse v.frames)) v.env in
    record v { env = low ++ cs ++ last n v.operands; base = length low }

-- a method's body stands there
abbrev pub called_view : (n : ℕ) → (captured : List ℕ) → Child → View → View
called_view n cs body v = child_view n body (environment_view n cs v)

-- the term splits into this redex, and each place may take its place
pub record IsAtRedex (k : List Node) (v : View) (t : Tree) (vs : List ServiceShape) (n : ℕ) (r : Redex) : Type 0 where
  pub contexts : List Context
  pub splits : split t ≡ Splits contexts r
  pub place : (p : ℕ) → Standing k (place_view n p v) (plug contexts (loc p)) vs

-- the redex of the term contracts over this store, and the machine stands at what it becomes
pub record Contracts (k : List Node) (t : Tree) (vs : List ServiceShape) (s new : Store) (added : List LineShape) (v : View) : Type 0 where
  pub contexts : List Context
  pub redex : Redex
  pub becomes : Tree
  pub splits : split t ≡ Splits contexts redex
  pub is : contract s redex ≡ Becomes becomes new added
  pub after : Standing k v (plug contexts becomes) vs

-- all terms below the node are reduced in place, and no methods stand behind them
abbrev pub is_simple : Kind → Bool
is_simple (kind.Make k) = false
is_simple (kind.Let x) = false
is_simple kind.Steps = false
is_simple kind.If = false
is_simple kind.Repeat = false
is_simple k = true

-- the number of the branch that is chosen
abbrev pub chosen : ℤ → ℕ
chosen (pos zero) = 2
chosen (pos (suc n)) = 1
chosen (negsuc n) = 1

-- at a node with all terms done that are reduced in place
pub record AtNode (k : List Node) (v : View) (number from done : ℕ) (n : Node) : Type 0 where
  pub focus : v.focus ≡ focus.Node number from done
  pub full : done ≡ in_place (piece_from k number from)
  pub node : piece_at (pieces k) number ≡ node_piece (pieces k) n

-- at a choice between two terms
pub record IsAtIf (k : List Node) (v : View) (t : Tree) (vs : List ServiceShape) (done : ℕ) : Type 0 where
  pub first : Tree
  pub second : Tree
  pub at : IsAtRedex k v t vs done (record { head = If; places = last done v.operands; behind = more first (more second none) })
