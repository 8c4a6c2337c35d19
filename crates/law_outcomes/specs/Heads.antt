-- A fact of what the nodes of terms are, wherever terms stand in a configuration.
use Rattle.std.specs.Prelude.{◌≡◌, ℕ, Bool, true, List, [], ◌∷◌}
use Rattle.asp_model.specs.Names.{Name, FutureShape, Text}
use Rattle.asp_model.specs.Term.{MethodHead, Head, Loc, Make, Call, Serve, Steps, Repeat, Echo, Tree, Trees, node, none, more}
use Rattle.asp_model.specs.Term as term
use Rattle.asp_model.specs.Split.{Context}
use Rattle.asp_model.specs.Store.{CellShape, Object}
use Rattle.asp_model.specs.Parcel.{ParcelShape}
use Rattle.asp_model.specs.Contraction.{LineShape, NumberLine, TextLine}
use Rattle.asp_model.specs.Configuration.{RequestShape, Activity, Configuration}
use Rattle.law_steps.specs.Reached.{IsReached, IsAt, HasValue}
use Rattle.law_steps.specs.Kept.{Stands}
use Rattle.law_steps.specs.Linked.{Each}

abbrev mutual
  -- it holds of each node of a term
  pub EachHead : (Head → Type 0) → Tree → Type 0
  EachHead P (node h ts) = P h × EachBelow P ts

  pub EachBelow : (Head → Type 0) → Trees → Type 0
  EachBelow P none = Unit {0}
  EachBelow P (more t ts) = EachHead P t × EachBelow P ts

-- it holds of an object of this field alone, and of one of this method
abbrev pub LabelHas : (Head → Type 0) → Text → Type 0
LabelHas P l = P (Make (l ∷ []) [])

abbrev pub MethodHas : (Head → Type 0) → MethodHead → Type 0
MethodHas P m = P (Make [] (m ∷ []))

-- it holds of the heads that reductions write, and what holds of an object holds of each label in it
pub record HoldsOfWritten (P : Head → Type 0) : Type 0 where
  pub loc : (place : ℕ) → P (Loc place)
  pub make : P (Make [] [])
  pub call : (label : Text) → P (Call label)
  pub serve : P (Serve [])
  pub steps : P Steps
  pub repeat : P Repeat
  pub group : P term.Group
  pub fields : (labels : List Text) (methods : List MethodHead) → P (Make labels methods) → Each (LabelHas P) labels
  pub methods : (labels : List Text) (methods : List MethodHead) → P (Make labels methods) → Each (MethodHas P) methods

-- of the node round a hole, and of those behind it
abbrev pub ContextHas : (Head → Type 0) → Context → Type 0
ContextHas P x = P x.head × EachBelow P x.behind

-- of the labels of an object's fields, and of its methods and their bodies
abbrev pub CellHas : (Head → Type 0) → CellShape → Type 0
CellHas P (Object fields methods) = Each (λ x. LabelHas P x.label) fields × Each (λ m. MethodHas P m.head × EachHead P m.body) methods
CellHas P c = Unit {0}

-- of the node that wrote a text
abbrev pub LineHas : (Head → Type 0) → LineShape → Type 0
LineHas P (TextLine text) = P (Echo text)
LineHas P (NumberLine n) = Unit {0}

-- it holds of all that an activity runs, has suspended, stores and has written
pub record ActivityHas (P : Head → Type 0) (a : Activity) : Type 0 where
  pub term : EachHead P a.term
  pub services : Each (λ v. Each (ContextHas P) v.contexts) a.services
  pub store : Each (CellHas P) a.store
  pub lines : Each (LineHas P) a.lines

-- and of all that passes between activities
pub record HasEverywhere (P : Head → Type 0) (c : Configuration) : Type 0 where
  pub activities : (n : Name) (a : Activity) → IsAt c n a → ActivityHas P a
  pub arguments : (m : Name) (k : ℕ) (r : RequestShape)
      → Stands c m k r → Each (CellHas P) r.arguments.cells
  pub values : (f : FutureShape) (p : ParcelShape) → HasValue c f p → Each (CellHas P) p.cells

-- a test of heads, as a fact of them
abbrev pub Passes : (Head → Bool) → Head → Type 0
Passes test h = test h ≡ true

-- what passes a test at each node of a program, and of what reductions write, passes it everywhere
abbrev pub ReachedHave : Type 0
ReachedHave = (test : Head → Bool) (program : Tree) (c : Configuration)
    → HoldsOfWritten (Passes test) → EachHead (Passes test) program → IsReached program c
    → HasEverywhere (Passes test) c
