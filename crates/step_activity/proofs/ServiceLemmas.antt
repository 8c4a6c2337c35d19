-- A service that ended.
use Rattle.std.proofs.Common.{◌≡◌, ℕ, true, is_some, List, [], ◌∷◌, Option, Some, None, refl, sym, subst}
use Rattle.asp_model.specs.Configuration as model
use Rattle.asp_model.specs.Configuration.{RequestShape, ServiceShape}
use Rattle.asp_model.specs.Intent.{ends_service, filling, newest}
use Rattle.asp_model.specs.Names.{Name}
use Rattle.asp_model.specs.Parcel.{parcel_of}
use Rattle.activity_step.specs.declared.activity.Activity.{Activity}
use Rattle.activity_step.specs.Activities.{StandsFor}
use Rattle.activity_step.specs.Standings as step
use Rattle.activity_step.specs.Standings.{going_on}
use Rattle.step_activity.specs.declared.actor.Actor.{Actor}
use Rattle.step_activity.specs.declared.act.Given.{Given}
use Rattle.step_activity.specs.Actors.{Stands, code_of}
use Rattle.step_activity.specs.Effects.{IsDoneBy, IsGiven}
use Rattle.step_activity.proofs.StandLemmas.{stands_with}

pub some_of : {X : Type 0} (o : Option X) → is_some o ≡ true → (v : X) × (o ≡ Some v)
some_of None e = absurd cc
some_of (Some v) e = (v, refl)

pub service_done : (x : Actor) (y : Activity) (a : model.Activity) (rs : List RequestShape) (n : Name) (p : ℕ) (g : Given) (v : ServiceShape) → Stands x a rs → StandsFor y (going_on v a) → step.code_of y ≡ code_of x → newest a.services ≡ Some v
    → IsGiven n (record { own = going_on v a; sent = None; logged = None; made = None; filled = filling a.present (parcel_of a.store (p ∷ [])) }) g → IsDoneBy n (ends_service a p (newest a.services)) rs (record x { activity = y; clear = 0 }) g
service_done x y a rs n p g v h for code e gives =
    subst (λ (o : Option ServiceShape). IsDoneBy n (ends_service a p o) rs (record x { activity = y; clear = 0 }) g) (sym e) (stands_with x y a (going_on v a) rs h for code refl refl refl, gives)
