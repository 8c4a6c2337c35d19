use Rattle.std.proofs.Common.{◌≡◌, ◌∙◌, OnOk, ap, subst}
use Rattle.asp_model.specs.Parcel.{ParcelShape, unpack_at}
use Rattle.code_table.specs.Shapes.{answer_shape, parcel_shape}
use Rattle.step_activity.specs.Actors.{Stands, code_of}
use Rattle.step_activity.proofs.actor.Actor.fill_answer.Goals as goal

pub fill-requires-clause-code : goal.fill-requires-clause-code
fill-requires-clause-code c = c.in_ok-value.ensures.code ∙ c.code.ensures.code

pub returns-clause-stands : goal.returns-clause-stands
returns-clause-stands c = λ a rs h.
    let same : parcel_shape c.in_ok-value.value ≡ answer_shape (code_of c.args.self.now) c.args.answer.now =
    c.in_ok-value.ensures.parcel ∙ ap (λ k. answer_shape k c.args.answer.now) c.code.ensures.code in
    subst (λ (p : ParcelShape). OnOk c.fill.result (Stands c.fill.new.self (record a { store = unpack_at a.store c.args.place p }) rs))
    same (c.fill.ensures.stands a rs h)
