-- Effects and intends that agree.
use Rattle.std.specs.Prelude.{◌≡◌}
use Rattle.asp_model.specs.Names.{Name, FutureShape}
use Rattle.asp_model.specs.Parcel.{ParcelShape}
use Rattle.asp_model.specs.Chase.{Chase}
use Rattle.asp_model.specs.Configuration.{RequestShape, Activity}
use Rattle.asp_model.specs.Intent.{StatusShape, Effect, Intent, Acts, Rests}
use Rattle.def_paths.specs.Agree.{MayBoth, ActivitiesAgree, RequestsAgree, ParcelsAgree}

-- what two activities do agrees, before anything is filled
pub record EffectsAgree (k l : FutureShape → Chase) (e d : Effect) : Type 0 where
  pub own : ActivitiesAgree k l e.own d.own
  pub sent : MayBoth {A = Name × RequestShape} {B = Name × RequestShape}
      (λ x y. (x.0 ≡ y.0) × RequestsAgree k l x.1 y.1) e.sent d.sent
  pub logged : e.logged ≡ d.logged
  pub made : MayBoth {A = Name × Activity} {B = Name × Activity}
      (λ x y. (x.0 ≡ y.0) × ActivitiesAgree k l x.1 y.1) e.made d.made
  pub filled : MayBoth {A = FutureShape × ParcelShape} {B = FutureShape × ParcelShape}
      (λ x y. (x.0 ≡ y.0) × ParcelsAgree k l x.1 y.1) e.filled d.filled

pub data IntentsAgree (k l : FutureShape → Chase) : Intent → Intent → Type 0 where
  both_act : {e d : Effect} → EffectsAgree k l e d → IntentsAgree k l (Acts e) (Acts d)
  both_rest : (status : StatusShape) → IntentsAgree k l (Rests status) (Rests status)
