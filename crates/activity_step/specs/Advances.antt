-- What an advance makes of an activity.
use Rattle.std.specs.Prelude.{◌≡◌, ℕ, zero, suc, Bool, true, false, List, ◌++◌, Option, map, reverse}
use Rattle.asp_model.specs.Names.{Name, Text}
use Rattle.asp_model.specs.Term.{Tree, loc}
use Rattle.asp_model.specs.Split as split
use Rattle.asp_model.specs.Split.{Context, Redex, Splits, plug}
use Rattle.asp_model.specs.Store.{Store}
use Rattle.asp_model.specs.Configuration.{ServiceShape}
use Rattle.asp_model.specs.Contraction.{Contraction, LineShape, Becomes, Faults, Needs, Communicates, Creates, Sends, Serves, Polls, contract}
use Rattle.asp_model.specs.Shapes.{fault_shape, line_shape}
use Rattle.asp_model.specs.declared.outcome.Line.{Line}
use Rattle.code_table.specs.declared.code.Node.{Node}
use Rattle.code_table.specs.Cells.{CodedStore}
use Rattle.code_table.specs.Shapes.{store_of}
use Rattle.step_rows.specs.declared.decision.Decision.{Decision}
use Rattle.step_rows.specs.Decisions.{decided}
use Rattle.step_machine.specs.Standing.{Standing, view_of}
use Rattle.step_machine.specs.Views.{IsAlone}
use Rattle.activity_step.specs.declared.state.State.{State}
use Rattle.activity_step.specs.declared.advance.Advance.{Advance}
use Rattle.activity_step.specs.declared.advance.Advance.TheVariants as advance

-- the term, the suspended services (newest first), the store and the output that an activity stands for
pub record Stands (k : List Node) (x : State) (t : Tree) (vs : List ServiceShape) (s : Store) (ls : List LineShape) : Type 0 where
  pub machine : Standing k (view_of x.machine) t vs
  pub store : store_of k x.store.cells ≡ s
  pub lines : map line_shape x.lines.items ≡ ls

-- a contraction was taken
pub record Reduced (k : List Node) (x : State) (t : Tree) (vs : List ServiceShape) (s : Store) (ls : List LineShape) : Type 0 where
  pub contexts : List Context
  pub redex : Redex
  pub becomes : Tree
  pub store : Store
  pub added : List LineShape
  pub splits : split.split t ≡ Splits contexts redex
  pub is : contract s redex ≡ Becomes becomes store added
  pub after : Stands k x (plug contexts becomes) vs store (ls ++ added)

-- the contraction of the redex is one that is told so
abbrev pub IsTold : Advance → Contraction → Type 0
IsTold advance.Reduces c = (u : Tree) × (r : Store) × (added : List LineShape) × (c ≡ Becomes u r added)
IsTold (advance.Faults f) c = c ≡ Faults (fault_shape f)
IsTold (advance.Needs p) c = c ≡ Needs p
IsTold (advance.Creates p) c = (service : Option Text) × (c ≡ Communicates (Creates p service))
IsTold advance.Sends c = (n : Name) × (l : Text) × (ns : List ℕ) × (c ≡ Communicates (Sends n l ns))
IsTold advance.Serves c = (ls : List Text) × (c ≡ Communicates (Serves ls))
IsTold advance.Polls c = (ls : List Text) × (c ≡ Communicates (Polls ls))
IsTold (advance.Rests p) c = ⊥

-- it is told, and it is no contraction
abbrev pub IsStopped : Advance → Contraction → Type 0
IsStopped advance.Reduces c = ⊥
IsStopped r c = IsTold r c

-- nothing was done, and what the redex comes to is told
pub record Told (k : List Node) (x : State) (t : Tree) (vs : List ServiceShape) (s : Store) (ls : List LineShape) (r : Advance) : Type 0 where
  pub contexts : List Context
  pub redex : Redex
  pub splits : split.split t ≡ Splits contexts redex
  pub is : IsTold r (contract s redex)
  pub kept : Stands k x t vs s ls

-- the term is a place, in no frames
pub record Rested (k : List Node) (x : State) (t : Tree) (vs : List ServiceShape) (s : Store) (ls : List LineShape) (p : ℕ) : Type 0 where
  pub splits : split.split t ≡ split.Stands p
  pub alone : IsAlone (reverse x.machine.frames.items)
  pub kept : Stands k x t vs s ls

-- contractions may be taken, or are told only
abbrev pub IsReduction : List Node → State → Tree → List ServiceShape → Store → List LineShape → Bool → Type 0
IsReduction k x t vs s ls true = Reduced k x t vs s ls
IsReduction k x t vs s ls false = Told k x t vs s ls advance.Reduces

abbrev pub IsAdvance : List Node → State → Tree → List ServiceShape → Store → List LineShape → Bool → Advance → Type 0
IsAdvance k x t vs s ls go advance.Reduces = IsReduction k x t vs s ls go
IsAdvance k x t vs s ls go (advance.Rests p) = Rested k x t vs s ls p
IsAdvance k x t vs s ls go r = Told k x t vs s ls r

-- what it stands at is told, and is no contraction
abbrev pub IsStop : List Node → State → Tree → List ServiceShape → Store → List LineShape → Advance → Type 0
IsStop k x t vs s ls advance.Reduces = ⊥
IsStop k x t vs s ls (advance.Rests p) = Rested k x t vs s ls p
IsStop k x t vs s ls r = Told k x t vs s ls r

-- a contraction was taken, or nothing was done
abbrev pub IsTaken : List Node → State → Tree → List ServiceShape → Store → List LineShape → Bool → Type 0
IsTaken k x t vs s ls true = Reduced k x t vs s ls
IsTaken k x t vs s ls false = Stands k x t vs s ls

-- a contraction of a term over a store
pub record Contracted (t : Tree) (s : Store) : Type 0 where
  pub contexts : List Context
  pub redex : Redex
  pub becomes : Tree
  pub store : Store
  pub added : List LineShape
  pub splits : split.split t ≡ Splits contexts redex
  pub is : contract s redex ≡ Becomes becomes store added

-- so many contractions were taken
abbrev pub AreTaken : List Node → State → Tree → List ServiceShape → Store → List LineShape → ℕ → Type 0
AreTaken k x t vs s ls zero = Stands k x t vs s ls
AreTaken k x t vs s ls (suc n) = (c : Contracted t s) × AreTaken k x (plug c.contexts c.becomes) vs c.store (ls ++ c.added) n

-- a decision was done: the redex became this place, the cells changed so, and the output grew so
pub record IsPerformed (k : List Node) (old new : CodedStore) (lines now : List Line) (d : Decision) (p : ℕ) : Type 0 where
  pub added : List LineShape
  pub is : decided k old d ≡ Becomes (loc p) (store_of k new) added
  pub lines_are : map line_shape now ≡ map line_shape lines ++ added
