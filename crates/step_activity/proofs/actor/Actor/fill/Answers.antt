use Rattle.std.proofs.Common.{refl}
use Rattle.asp_model.specs.Configuration.{Activity}
use Rattle.asp_model.specs.Parcel.{ParcelShape, unpack_at}
use Rattle.code_table.specs.Shapes.{parcel_shape}
use Rattle.step_activity.specs.declared.actor.Actor.{Actor}
use Rattle.step_activity.specs.Clear.{HasClear}
use Rattle.step_activity.proofs.StandLemmas.{stands_knowing}
use Rattle.step_activity.proofs.actor.Actor.fill.Goals as goal

pub returns-clause-stands : goal.returns-clause-stands
returns-clause-stands c = λ a rs h.
    let x : Actor = c.args.self.now in
    let p : ParcelShape = parcel_shape c.args.value.now in
    let b : Activity = record a { store = unpack_at a.store c.args.place p } in
    let for = c.in_ok-fill.ensures.stands a h.activity in
    let kept : HasClear b c.clear_kept-self.result = c.clear_kept-self.ensures.clear a p h.activity h.clear in
    let now : HasClear b c.clear_now-self.result = c.clear_now-self.ensures.clear b for kept in
    stands_knowing x c.fill.new.self c.clear_now-self.result a b rs h for c.fill.ensures.code refl refl refl now
