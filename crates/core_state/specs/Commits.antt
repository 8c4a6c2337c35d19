-- What the commit of a lease leaves.
use Rattle.std.specs.Prelude.{◌≡◌, ◌≤◌, ◌+◌, ◌-◌, ℕ, zero, suc, Bool, true, false, List, Option, Some, None}
use Rattle.asp_model.specs.Chase.{Chase}
use Rattle.asp_model.specs.Configuration.{Activity, RequestShape}
use Rattle.asp_model.specs.History.{Committed, HistoryShape, with_entry}
use Rattle.asp_model.specs.Intent.{Acts, Effect, Intent, Rests, intent}
use Rattle.asp_model.specs.Names.{FutureShape, Name}
use Rattle.asp_model.specs.Step.{intent_in, with_effect}
use Rattle.def_journals.specs.Communications.{is_communication}
use Rattle.def_journals.specs.Journals.{RunShape}
use Rattle.def_journals.specs.Owed.{need_of}
use Rattle.law_core.specs.Commits.{made_by, returned, with_activity}
use Rattle.code_table.specs.declared.code.Node.{Node}
use Rattle.step_activity.specs.declared.act.Given.{Given}
use Rattle.step_activity.specs.declared.actor.Actor.{Actor}
use Rattle.step_activity.specs.Stances as stances
use Rattle.step_activity.specs.Stances.{StanceShape}
use Rattle.core_state.specs.declared.state.CoreState.{CoreState}
use Rattle.core_state.specs.Returning.{IsReturning}
use Rattle.core_state.specs.Cores.{IsCore}
use Rattle.core_state.specs.Handing.{IsToHand, came_in, with_own}

abbrev pub communicates : StanceShape → Bool
communicates (stances.Goes b) = b
communicates x = false

-- by whether it is a communication
abbrev pub act_by : Bool → Intent → Option Effect
act_by true (Acts e) = Some e
act_by true (Rests status) = None
act_by false p = None

-- the communication at which an activity stands, where it may be done and nothing is owed to it before
abbrev pub act_of : (FutureShape → Chase) → List RequestShape → Name → Activity → Option Effect
act_of chases rs n a = elim (need_of chases a) [ Some x ↦ None | None ↦ act_by (is_communication chases a) (intent chases rs n a) ]

-- where so much of a grant is left
abbrev pub act_within : ℕ → Option Effect → Option Effect
act_within zero o = None
act_within (suc rest) o = o

-- one comes in with these reductions, of which the last had an effect
abbrev pub IsActCommitted : (h : HistoryShape) (code : List Node) (s : RunShape) (k : ℕ) (n : Name) (grant reductions : ℕ) (end : Activity) (e : Effect) → CoreState → Type 0
IsActCommitted h code s k n grant reductions end e new =
    IsCore (with_entry h (Committed k reductions)) code new (returned s k (grant - reductions) (with_effect n e (with_activity n end s.configuration)) (made_by e.made))

-- an activity has come back and intends an effect, for which one of its grant is left
pub record IsActing (h : HistoryShape) (code : List Node) (x : CoreState) (s : RunShape) (k : ℕ) (n : Name) (grant reductions : ℕ) (a : Actor) (e : Effect) : Type 0 where
  pub taken : ℕ
  pub more : reductions ≡ suc taken
  pub within : suc taken ≤ grant
  pub returning : IsReturning h code x s k n grant taken a
  pub intends : intent_in (with_activity n returning.end s.configuration) n ≡ Acts e

-- it has come in so, with that effect, and nobody has what it gives
pub record IsGiving (h : HistoryShape) (code : List Node) (x : CoreState) (s : RunShape) (k : ℕ) (n : Name) (grant reductions : ℕ) (e : Effect) (g : Given) : Type 0 where
  pub before : CoreState
  pub actor : Actor
  pub acting : IsActing h code before s k n grant reductions actor e
  pub hand : IsToHand (with_entry h (Committed k reductions)) code x (came_in s k (s.left + (grant - reductions)) (with_own n e s.configuration)) n e g
  pub journal : x.journal ≡ before.journal
  pub ranks : x.ranks ≡ before.ranks
  pub left : x.left ≡ before.left
  pub bursts : x.bursts ≡ before.bursts

-- after contractions that led here
abbrev pub IsGivingFrom : (h : HistoryShape) (code : List Node) (x : CoreState) (s : RunShape) (k : ℕ) (n : Name) (grant reductions : ℕ) (e : Effect) → Activity → Given → Type 0
IsGivingFrom h code x s k n grant reductions e end g = (r : IsGiving h code x s k n grant reductions e g) × (r.acting.returning.end ≡ end)

abbrev pub IsSomeGiving : CoreState → ℕ → ℕ → ℕ → Given → Type 0
IsSomeGiving x k grant reductions g = (h : HistoryShape) × (code : List Node) × (s : RunShape) × (n : Name) × (e : Effect) × IsGiving h code x s k n grant reductions e g
