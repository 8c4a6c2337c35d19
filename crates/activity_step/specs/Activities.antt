-- The activity of a configuration that an activity stands for, and where it stops.
use Rattle.std.specs.Prelude.{◌≡◌, ◌≤◌, ◌-◌, ℕ, suc, Bool, true, false, List, [], ◌∷◌, ◌++◌, length, reverse}
use Rattle.asp_model.specs.Term.{loc}
use Rattle.asp_model.specs.Store.{CellShape}
use Rattle.std.specs.Arc.{arc_value}
use Rattle.std.specs.Option.{option_map}
use Rattle.code_table.specs.Cells.{held_future}
use Rattle.asp_model.specs.Split as split
use Rattle.asp_model.specs.Split.{Context, Redex, Splits, plug}
use Rattle.asp_model.specs.Contraction.{contract}
use Rattle.asp_model.specs.Configuration as model
use Rattle.activity_step.specs.declared.activity.Activity.{Activity}
use Rattle.activity_step.specs.declared.advance.Advance.{Advance}
use Rattle.activity_step.specs.declared.advance.Advance.TheVariants as advance
use Rattle.activity_step.specs.Local.{IsLocalStep, LocalRun}
use Rattle.activity_step.specs.Advances.{Stands, IsTold}

-- apart from what it sent, created and served
pub record StandsFor (x : Activity) (a : model.Activity) : Type 0 where
  pub state : Stands (arc_value x.code) x.state a.term (reverse a.services) a.store a.lines
  pub present : option_map held_future x.present ≡ a.present
  pub active : x.active ≡ a.active
  pub count : x.count ≡ a.reductions

-- what the redex of an activity comes to is told so
pub record IsToldAt (a : model.Activity) (r : Advance) : Type 0 where
  pub contexts : List Context
  pub redex : Redex
  pub splits : split.split a.term ≡ Splits contexts redex
  pub is : IsTold r (contract a.store redex)

-- where it stops: a contraction that may not be taken is one that could be
abbrev pub IsStopAt : model.Activity → Advance → Type 0
IsStopAt a advance.Reduces = (b : model.Activity) × IsLocalStep a b
IsStopAt a (advance.Rests p) = split.split a.term ≡ split.Stands p
IsStopAt a r = IsToldAt a r

-- one contraction was taken
pub record IsStepped (x : Activity) (a : model.Activity) : Type 0 where
  pub next : model.Activity
  pub step : IsLocalStep a next
  pub stands : StandsFor x next

-- it stands as before, and where it stops is told
pub record IsStopped (x : Activity) (a : model.Activity) (r : Advance) : Type 0 where
  pub stands : StandsFor x a
  pub stop : IsStopAt a r

abbrev pub IsAfter : Activity → model.Activity → Bool → Advance → Type 0
IsAfter x a true advance.Reduces = IsStepped x a
IsAfter x a go r = IsStopped x a r

-- all contractions that may be taken were taken, where one more could be
abbrev pub IsUsed : ℕ → ℕ → Advance → Type 0
IsUsed n most advance.Reduces = n ≡ most
IsUsed n most r = Unit {0}

-- it took the contractions before its stop, at most so many
pub record IsRun (x : Activity) (a : model.Activity) (most : ℕ) (r : Advance) : Type 0 where
  pub count : ℕ
  pub end : model.Activity
  pub run : LocalRun count a end
  pub within : count ≤ most
  pub stands : StandsFor x end
  pub stop : IsStopAt end r
  pub used : IsUsed count most r

-- it took so many contractions
pub record IsRunning (x : Activity) (a : model.Activity) (count : ℕ) : Type 0 where
  pub here : model.Activity
  pub run : LocalRun count a here
  pub stands : StandsFor x here

-- it took so many contractions, and where it stops then is told
pub record IsHalted (x : Activity) (a : model.Activity) (count : ℕ) (r : Advance) : Type 0 where
  pub here : model.Activity
  pub run : LocalRun count a here
  pub stopped : IsStopped x here r

-- it took so many contractions, or all of them but the last one, before which it stops
abbrev pub IsNext : Activity → model.Activity → ℕ → Advance → Type 0
IsNext x a n advance.Reduces = IsRunning x a n
IsNext x a n r = IsHalted x a (n - 1) r

abbrev pub reduces : Advance → Bool
reduces advance.Reduces = true
reduces r = false

-- its redex in these contexts became a new cell
abbrev pub with_new_cell : List Context → CellShape → model.Activity → model.Activity
with_new_cell contexts c a = record a { term = plug contexts (loc (length a.store)); store = a.store ++ c ∷ []; reductions = suc a.reductions }
