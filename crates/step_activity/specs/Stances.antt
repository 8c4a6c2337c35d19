-- Where an activity stands that nobody works on: what is owed to it, or what it intends.
use Rattle.std.specs.Prelude.{◌≡◌, ℕ, Bool, true, false, List, ◌∷◌, Option, Some, None}
use Rattle.std.specs.Borrow.{Bor}
use Rattle.asp_model.specs.Names.{FutureShape, Name}
use Rattle.asp_model.specs.declared.name.FutureName.{FutureName}
use Rattle.asp_model.specs.Store as store
use Rattle.asp_model.specs.Store.{CellShape, Store, cell}
use Rattle.asp_model.specs.Chase as chase
use Rattle.asp_model.specs.Chase.{Chase}
use Rattle.asp_model.specs.Contraction.{first_future, is_future, members_of}
use Rattle.asp_model.specs.Configuration.{Activity, RequestShape}
use Rattle.asp_model.specs.Intent as intent
use Rattle.asp_model.specs.Intent.{Acts, Intent}
use Rattle.asp_model.specs.Shapes.{future_shape}
use Rattle.def_journals.specs.Communications.{is_communication}
use Rattle.def_journals.specs.Owed.{need_of}
use Rattle.step_rows.specs.declared.redex.Redex.{Redex}
use Rattle.step_rows.specs.declared.redex.Redex.TheVariants as redex
use Rattle.step_reads.specs.declared.strict.Strict.{Strict}
use Rattle.step_reads.specs.declared.strict.Strict.TheVariants as strict
use Rattle.step_reads.specs.Strict.{strict_places}
use Rattle.step_activity.specs.declared.held.Held.{Held}
pub use Rattle.step_parts.specs.Stances.{StanceShape, Needs, Goes, Rests, stance_shape, free_stance}

abbrev pub stance_by : Bool → Intent → StanceShape
stance_by b (Acts e) = Goes b
stance_by b (intent.Rests status) = Rests status

-- a need first, then what it intends
abbrev pub stance_of : (FutureShape → Chase) → List RequestShape → Name → Activity → StanceShape
stance_of chases rs n a = elim (need_of chases a) [ Some x ↦ Needs x.0 x.1 | None ↦ stance_by (is_communication chases a) (intent.intent chases rs n a) ]

-- Strict operands

-- with the members of a group that is waited for, as the store has them
abbrev pub held_places : Store → Strict → List ℕ
held_places s (strict.Members i) = i ∷ members_of (cell s i)
held_places s x = strict_places x

-- the future that is this cell, or it is none
abbrev pub IsFutureOf : CellShape → Option (Bor FutureName) → Type 0
IsFutureOf c None = is_future c ≡ false
IsFutureOf c (Some f) = c ≡ store.Future (future_shape f.now)

-- the first of these places that holds a future, with the future
abbrev pub IsHeld : Store → List ℕ → Option Held → Type 0
IsHeld s ns None = first_future s ns ≡ None
IsHeld s ns (Some x) = (first_future s ns ≡ Some x.place) × (cell s x.place ≡ store.Future (future_shape x.future.now))

-- where an activity stands whose first operand that is a future is this place, by the end of its chase
abbrev pub held_stance : Chase → ℕ → StanceShape
held_stance (chase.Value f value) p = Needs f p
held_stance (chase.Unfilled f) p = Rests (intent.Awaits f)
held_stance (chase.Cycle f) p = Rests (intent.Awaits f)

-- Where no operand is a future

-- a redex that reduces by a communication, where it sends nothing
abbrev pub asks_others : Redex → Bool
asks_others (redex.Active i l) = true
asks_others (redex.Serve ls) = true
asks_others (redex.Pending ls) = true
asks_others x = false

-- at a place a service ends, if one is suspended
abbrev pub place_stance : Bool → StanceShape
place_stance true = Goes true
place_stance false = Rests intent.Done
