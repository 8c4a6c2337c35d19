use Rattle.std.proofs.Common.{◌≡◌, ◌∙◌, ◌∷◌, [], Option, Some, None, refl, sym, ap}
use Rattle.std.specs.Option.{option_map}
use Rattle.std.specs.declared.alloc.Global.{Global}
use Rattle.std.specs.declared.sync.Arc.{Arc}
use Rattle.code_table.specs.declared.future.Future.{Future as Held}
use Rattle.code_table.specs.Cells.{held_future}
use Rattle.asp_model.specs.Intent.{filling, newest}
use Rattle.asp_model.specs.Names.{FutureShape}
use Rattle.asp_model.specs.Parcel.{parcel_of}
use Rattle.code_table.specs.Shapes.{parcel_shape}
use Rattle.step_activity.specs.declared.actor.Actor.{Actor}
use Rattle.step_activity.specs.declared.act.Given.TheVariants as given
use Rattle.step_activity.proofs.ServiceLemmas.{service_done, some_of}
use Rattle.step_activity.proofs.actor.Actor.end_service.Goals as goal

pub returns-in-Some-clause-ended : goal.returns-in-Some-clause-ended
returns-in-Some-clause-ended c = λ a rs n h e.
    let x : Actor = c.args.self.now in
    let p = c.args.place in
    let v = some_of (newest a.services) (sym (c.is_serving.ensures.serving a h.activity) ∙ c.if-not-is_serving.false) in
    let ends = c.in_ok-future.ensures.ended a p v.0 h.activity e v.1 in
    let present : a.present ≡ Some (held_future c.in-Some.future) = sym ends.0 ∙ ap (λ (o : Option (Arc Held Global)). option_map held_future o) c.in-Some.is in
    let value : parcel_shape c.in_ok-value.value ≡ parcel_of a.store (p ∷ []) = c.in_ok-value.ensures.parcel a h.activity in
    let filled : filling a.present (parcel_of a.store (p ∷ [])) ≡ Some (held_future c.in-Some.future, parcel_shape c.in_ok-value.value) = λ i. filling (present i) (sym value i) in
    service_done x c.ended.new.self a rs n p (given.Filled c.in-Some.future c.in_ok-value.value) v.0 h ends.1 c.in_ok-future.ensures.code v.1 (refl, refl, filled, refl)

pub returns-in-None-clause-ended : goal.returns-in-None-clause-ended
returns-in-None-clause-ended c = λ a rs n h e.
    let x : Actor = c.args.self.now in
    let p = c.args.place in
    let v = some_of (newest a.services) (sym (c.is_serving.ensures.serving a h.activity) ∙ c.if-not-is_serving.false) in
    let ends = c.in_ok-future.ensures.ended a p v.0 h.activity e v.1 in
    let present : a.present ≡ None = sym ends.0 ∙ ap (λ (o : Option (Arc Held Global)). option_map held_future o) c.in-None.is in
    let filled : filling a.present (parcel_of a.store (p ∷ [])) ≡ None = ap (λ (o : Option FutureShape). filling o (parcel_of a.store (p ∷ []))) present in
    service_done x c.ended.new.self a rs n p given.Nothing v.0 h ends.1 c.in_ok-future.ensures.code v.1 (refl, refl, filled, refl)
