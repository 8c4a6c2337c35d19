-- A machine that is made anew from contexts, the outermost first.
use Rattle.std.specs.Prelude.{◌≡◌, ℕ, List, [], ◌∷◌, ◌++◌, Option, length, reverse}
use Rattle.std.specs.Option.{option_map}
use Rattle.asp_model.specs.Names.{FutureShape}
use Rattle.asp_model.specs.Term.{Tree, loc}
use Rattle.asp_model.specs.Split.{Context, Redex}
use Rattle.asp_model.specs.Configuration.{ServiceShape}
use Rattle.code_table.specs.Cells.{held_future}
use Rattle.code_table.specs.declared.code.Node.{Node}
use Rattle.code_laws.specs.Splitting.{redex_node}
use Rattle.step_machine.specs.declared.frames.Frame.{Frame}
use Rattle.step_machine.specs.declared.frames.Focus.TheVariants as focus
use Rattle.step_machine.specs.declared.frames.Form.TheVariants as form
use Rattle.step_machine.specs.Items.{Item, Waits, contexts_of}
use Rattle.step_machine.specs.Services.{Below}
use Rattle.step_machine.specs.Standing.{View}
use Rattle.frozen_code.specs.Held.{HoldsContext, HoldsRedex}
use Rattle.frozen_code.specs.declared.held.Held.{Held}
use Rattle.frozen_code.specs.declared.machines.Innermost.{Innermost}
use Rattle.frozen_code.specs.declared.machines.Innermost.TheVariants as innermost
use Rattle.frozen_code.specs.declared.machines.Suspended.{Suspended}

-- Views

-- in no frames
abbrev pub empty_view : View
empty_view = record {
  frames = [];
  env = [];
  operands = [];
  futures = [];
  asked = [];
  base = 0;
  focus = focus.Place 0;
}

-- a frame round whatever comes, behind the environments and operands so far
abbrev pub held_frame : (number : ℕ) (ns done : List ℕ) → View → Frame
held_frame number ns done v = record {
  form = form.Terms;
  node = number;
  from = 0;
  done = length done;
  base = length v.env;
  height = length (v.env ++ ns);
}

abbrev pub held_view : (number : ℕ) (ns done : List ℕ) → View → View
held_view number ns done v = record v {
  frames = v.frames ++ held_frame number ns done v ∷ [];
  env = v.env ++ ns;
  operands = v.operands ++ done;
}

-- the term so far waits for the end of a service
abbrev pub served_frame : View → Frame
served_frame v = record {
  form = form.Service;
  node = 0;
  from = 0;
  done = 0;
  base = length v.env;
  height = length v.env;
}

abbrev pub served_view : Option FutureShape → View → View
served_view f v = record v { frames = v.frames ++ served_frame v ∷ []; futures = v.futures ++ f ∷ [] }

-- a node is looked at, whose first terms are done
abbrev pub begun_view : (number : ℕ) (ns done : List ℕ) → View → View
begun_view number ns done v = record v {
  env = v.env ++ ns;
  operands = v.operands ++ done;
  base = length v.env;
  focus = focus.Node number 0 (length done);
}

-- a place is looked at
abbrev pub rested_view : (place : ℕ) → View → View
rested_view place v = record v { base = length v.env; focus = focus.Place place }

-- Contexts

-- one item more
pub record HasItem (k : List Node) (old new : View) (vs ws : List ServiceShape) (b : Below k old vs)
    (x : Item) : Type 0 where
  pub below : Below k new ws
  pub items : below.items ≡ x ∷ b.items

-- each node holds its context
abbrev pub HoldAll : List Node → List Held → List Context → Type 0
HoldAll k [] [] = Unit {0}
HoldAll k [] (c ∷ cs) = ⊥
HoldAll k (x ∷ xs) [] = ⊥
HoldAll k (x ∷ xs) (c ∷ cs) = HoldsContext k x.node x.places.items x.done.items c × HoldAll k xs cs

-- the items of contexts, the first of them outermost, inside others
abbrev pub stacked : List Context → List Item → List Item
stacked [] xs = xs
stacked (c ∷ cs) xs = stacked cs (Waits c ∷ xs)

pub record HasItems (k : List Node) (old new : View) (vs : List ServiceShape) (b : Below k old vs)
    (cs : List Context) : Type 0 where
  pub below : Below k new vs
  pub items : below.items ≡ stacked cs b.items

-- so far, with these nodes left
pub record HasSome (k : List Node) (left : List Held) (old new : View) (vs : List ServiceShape)
    (b : Below k old vs) (cs : List Context) : Type 0 where
  pub rest : List Context
  pub holds : HoldAll k left rest
  pub below : Below k new vs
  pub items : stacked rest below.items ≡ stacked cs b.items

-- Services

-- a suspended term is held: its contexts and its future
pub record HoldsService (k : List Node) (x : Suspended) (v : ServiceShape) : Type 0 where
  pub contexts : HoldAll k x.contexts.items (reverse v.contexts)
  pub future : option_map held_future x.future ≡ v.future

abbrev pub HoldServices : List Node → List Suspended → List ServiceShape → Type 0
HoldServices k [] [] = Unit {0}
HoldServices k [] (v ∷ vs) = ⊥
HoldServices k (x ∷ xs) [] = ⊥
HoldServices k (x ∷ xs) (v ∷ vs) = HoldsService k x v × HoldServices k xs vs

-- these services wait, newest first, and no context stands inside them
pub record IsBare (k : List Node) (v : View) (vs : List ServiceShape) : Type 0 where
  pub below : Below k v vs
  pub bare : contexts_of below.items ≡ []

-- services wait on top of others, oldest first
abbrev pub waiting_on : List ServiceShape → List ServiceShape → List ServiceShape
waiting_on [] ws = ws
waiting_on (v ∷ vs) ws = waiting_on vs (v ∷ ws)

-- so far, with these services left
pub record HasServed (k : List Node) (left : List Suspended) (new : View) (ws vs : List ServiceShape) : Type 0 where
  pub rest : List ServiceShape
  pub served : List ServiceShape
  pub holds : HoldServices k left rest
  pub bare : IsBare k new served
  pub all : waiting_on rest served ≡ waiting_on vs ws

-- The innermost term

abbrev pub HoldsInnermost : List Node → Innermost → Tree → Type 0
HoldsInnermost k (innermost.At p) t = t ≡ loc p
HoldsInnermost k (innermost.Redex x) t = (r : Redex) × HoldsRedex k x.node x.places.items x.done.items r
    × (t ≡ redex_node r)
