-- An actor that changed stands for what its parts stand for.
use Rattle.std.proofs.Common.{◌≡◌, ℕ, zero, suc, Bool, true, false, List, [], ◌∷◌, Some, length, map, refl, sym, ap, subst, ◌∙◌}
use Rattle.std.specs.Prelude.{slice_get}
use Rattle.std.specs.List.{AllByRecursion}
use Rattle.std.specs.Arc.{arc_value}
use Rattle.asp_model.specs.Configuration as model
use Rattle.asp_model.specs.Configuration.{RequestShape}
use Rattle.asp_model.specs.Store.{Store}
use Rattle.asp_model.specs.Parcel.{has_place}
use Rattle.asp_model.specs.Intent.{Numbered}
use Rattle.law_steps.specs.Closed.{IsClosedActivity, IsClosedParcel}
use Rattle.code_table.specs.declared.code.Node.{Node}
use Rattle.code_table.specs.Shapes.{parcel_shape, store_of}
use Rattle.code_table.specs.Cells.{CodedStore}
use Rattle.request_queue.specs.Pending.{pending_of}
use Rattle.activity_step.specs.declared.activity.Activity.{Activity}
use Rattle.activity_step.specs.Activities.{StandsFor}
use Rattle.activity_step.specs.Standings as step
use Rattle.step_activity.specs.declared.actor.Actor.{Actor}
use Rattle.step_activity.specs.Actors.{IsClosedFor, IsQueue, Stands, code_of}
use Rattle.step_activity.specs.Clear.{HasClear}
use Rattle.step_activity.proofs.ClearLemmas.{first_clear}
use Rattle.step_activity.proofs.MatchLemmas.{Entries, numbered}

-- the arguments of the pending requests are of this code
abbrev pub AreCoded : List Node → Entries → Type 0
AreCoded k es = AllByRecursion (λ e. arc_value e.1.arguments.code ≡ k) es

-- the queue is kept, and so is the code
pub record Keeps (x z : Actor) : Type 0 where
  pub pending : z.queue.pending ≡ x.queue.pending
  pub arrived : z.queue.arrived ≡ x.queue.arrived
  pub code : code_of z ≡ code_of x

pub queue_to : (x z : Actor) (served : List ℕ) (rs : List RequestShape) → Keeps x z → IsQueue x served rs → IsQueue z served rs
queue_to x z served rs k h = record {
  pending = ap (map numbered) k.pending ∙ h.pending;
  arrived = k.arrived ∙ h.arrived;
  below = h.below;
  coded = subst (AreCoded (code_of z)) (sym k.pending) (subst (λ (m : List Node). AreCoded m x.queue.pending) (sym k.code) h.coded);
}

-- knowing so many members of a group that it waits for
pub stands_knowing : (x : Actor) (y : Activity) (k : ℕ) (a b : model.Activity) (rs : List RequestShape) → Stands x a rs → StandsFor y b → step.code_of y ≡ code_of x → a.sends ≡ b.sends → a.creations ≡ b.creations → a.served ≡ b.served → HasClear b k → Stands (record x { activity = y; clear = k }) b rs
stands_knowing x y k a b rs h for code sends creations served clear =
    let z : Actor = record x { activity = y; clear = k } in
    record {
      activity = for;
      sends = h.sends ∙ sends;
      creations = h.creations ∙ creations;
      queue = subst (λ (ns : List ℕ). IsQueue z ns rs) served (queue_to x z a.served rs (record { pending = refl; arrived = refl; code = code }) h.queue);
      clear = clear;
    }

-- whatever changed, it knows none
pub stands_with : (x : Actor) (y : Activity) (a b : model.Activity) (rs : List RequestShape) → Stands x a rs → StandsFor y b → step.code_of y ≡ code_of x → a.sends ≡ b.sends → a.creations ≡ b.creations → a.served ≡ b.served → Stands (record x { activity = y; clear = 0 }) b rs
stands_with x y a b rs h for code sends creations served = stands_knowing x y 0 a b rs h for code sends creations served (first_clear b)

-- the store of an activity that an actor stands for
pub own_store : (x : Actor) (a : model.Activity) (rs : List RequestShape) → Stands x a rs → store_of (code_of x) x.activity.state.store.cells ≡ a.store
own_store x a rs h = h.activity.state.store

pub length_store : (k : List Node) (cs : CodedStore) → length (store_of k cs) ≡ length cs
length_store k [] = refl
length_store k (c ∷ cs) = ap suc (length_store k cs)

pub size : (x : Actor) (a : model.Activity) (rs : List RequestShape) → Stands x a rs → length a.store ≡ length x.activity.state.store.cells
size x a rs h = sym (ap (λ (s : Store). length s) (own_store x a rs h)) ∙ length_store (code_of x) x.activity.state.store.cells

-- Closed actors

-- the actor is closed, where its activity stands for another closed one
pub closed_with : (x : Actor) (y : Activity) (h : IsClosedFor x) (b : model.Activity) → StandsFor y b → step.code_of y ≡ code_of x → h.activity.sends ≡ b.sends → h.activity.creations ≡ b.creations → h.activity.served ≡ b.served → IsClosedActivity b → IsClosedFor (record x { activity = y; clear = 0 })
closed_with x y h b for code sends creations served closed = record {
  activity = b;
  received = h.received;
  stands = stands_with x y h.activity b h.received h.stands for code sends creations served;
  closed = closed;
  arguments = h.arguments;
}

abbrev AreClosed : List Numbered → Type 0
AreClosed = AllByRecursion (λ x. IsClosedParcel x.1.arguments)

abbrev skip_or : Bool → Numbered → List Numbered → List Numbered
skip_or b x xs = elim b [ true ↦ xs | false ↦ x ∷ xs ]

closed_step : (b : Bool) (x : Numbered) (xs : List Numbered) → IsClosedParcel x.1.arguments → AreClosed xs → AreClosed (skip_or b x xs)
closed_step true x xs h all = all
closed_step false x xs h all = (h, all)

pending_closed : (served : List ℕ) (k : ℕ) (rs : List RequestShape) → ((j : ℕ) (r : RequestShape) → slice_get rs j ≡ Some r → IsClosedParcel r.arguments) → AreClosed (pending_of served k rs)
pending_closed served k [] h = tt
pending_closed served k (r ∷ rs) h = closed_step (has_place k served) (k, r) (pending_of served (suc k) rs) (h zero r refl) (pending_closed served (suc k) rs (λ j q e. h (suc j) q e))

entries_closed : (es : Entries) → AreClosed (map numbered es) → AllByRecursion (λ e. IsClosedParcel (parcel_shape e.1.arguments)) es
entries_closed [] h = tt
entries_closed (e ∷ es) h = (h.0, entries_closed es h.1)

-- the arguments of the pending requests are closed
pub waiting_closed : (x : Actor) → IsClosedFor x → AllByRecursion (λ e. IsClosedParcel (parcel_shape e.1.arguments)) x.queue.pending
waiting_closed x h = entries_closed x.queue.pending (subst AreClosed (sym h.stands.queue.pending) (pending_closed h.activity.served 0 h.received h.arguments))
