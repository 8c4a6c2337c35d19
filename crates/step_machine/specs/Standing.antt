-- The term that a machine stands for.
use Rattle.std.specs.Prelude.{◌≡◌, ℕ, ◌≤◌, List, Option, length, map, drop, reverse}
use Rattle.std.specs.Option.{option_map}
use Rattle.asp_model.specs.Names.{Text, FutureShape}
use Rattle.asp_model.specs.Term.{Call, Tree, none, Environment, loc, node, locs_then}
use Rattle.asp_model.specs.Split.{Context, Redex, Splits, split, plug}
use Rattle.code_table.specs.Cells.{held_future}
use Rattle.asp_model.specs.Configuration.{ServiceShape}
use Rattle.code_table.specs.declared.code.Node.{Node}
use Rattle.code_table.specs.Fitting.{Runs}
use Rattle.code_laws.specs.Nodes.{in_place, redex_in}
use Rattle.code_laws.specs.Splitting.{redex_node}
use Rattle.step_machine.specs.declared.frames.Frame.{Frame}
use Rattle.step_machine.specs.declared.frames.Focus.{Focus}
use Rattle.step_machine.specs.declared.frames.Focus.TheVariants as focus
use Rattle.step_machine.specs.declared.machine.Machine.{Machine}
use Rattle.step_machine.specs.Items.{Item, contexts_of, services_of, futures_of}
use Rattle.step_machine.specs.Calls.{IsCalled, IsDealt}
use Rattle.step_machine.specs.Stacks.{piece_from, last, but_last, IsStack}

-- a machine without its vectors
pub record View : Type 0 where
  pub frames : List Frame
  pub env : List ℕ
  pub operands : List ℕ
  pub futures : List (Option FutureShape)
  pub asked : Text
  pub base : ℕ
  pub focus : Focus

abbrev pub view_of : Machine → View
view_of m = record { frames = m.frames.items; env = m.env.items; operands = m.operands.items; futures = map (option_map held_future) m.futures.items; asked = m.asked.label.text; base = m.base; focus = m.focus }

-- a node whose first terms lie on the operands
pub record IsBegun (k : List Node) (ns operands : List ℕ) (number from : ℕ) (t : Tree) : Type 0 where
  pub names : List Text
  pub scope : Environment
  pub runs : Runs names scope ns (piece_from k number from)
  pub most : length operands ≤ in_place (piece_from k number from)
  pub is : t ≡ redex_node (redex_in names scope ns (piece_from k number from) operands)

-- how many operands are its own
abbrev pub taken : Focus → ℕ
taken (focus.Node number from done) = done
taken (focus.Place p) = 0
taken (focus.Asked n) = n
taken (focus.Calls s number members done) = done
taken (focus.Called number n) = n

abbrev pub IsFocus : List Node → Text → (ns operands : List ℕ) → Focus → Tree → Type 0
IsFocus k asked ns operands (focus.Node number from done) t = IsBegun k ns operands number from t
IsFocus k asked ns operands (focus.Place p) t = t ≡ loc p
IsFocus k asked ns operands (focus.Asked n) t = t ≡ node (Call asked) (locs_then operands none)
IsFocus k asked ns operands (focus.Calls s number members done) t = IsDealt k s operands number members t
IsFocus k asked ns operands (focus.Called number n) t = IsCalled k operands number t

-- the term of a machine, and its suspended services, newest first
pub record Standing (k : List Node) (v : View) (t : Tree) (services : List ServiceShape) : Type 0 where
  pub items : List Item
  pub inner : Tree
  pub low : v.base ≤ length v.env
  pub enough : taken v.focus ≤ length v.operands
  pub focus : IsFocus k v.asked (drop v.base v.env) (last (taken v.focus) v.operands) v.focus inner
  pub stack : IsStack k (reverse v.frames) v.env (but_last (taken v.focus) v.operands) items
  pub futures : reverse v.futures ≡ futures_of items
  pub term : t ≡ plug (contexts_of items) inner
  pub suspended : services ≡ services_of items

-- the redex of a term, and where the machine stands when it became another one
pub record Leads (k : List Node) (t : Tree) (services : List ServiceShape) (r : Redex) (becomes : Tree) (v : View) : Type 0 where
  pub contexts : List Context
  pub redex : split t ≡ Splits contexts r
  pub after : Standing k v (plug contexts becomes) services
