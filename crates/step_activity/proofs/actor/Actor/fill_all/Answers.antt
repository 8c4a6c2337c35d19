use Rattle.std.proofs.Common.{◌∙◌, length, refl, sym, ap, arith}
use Rattle.std.specs.Arc.{arc_value}
use Rattle.code_table.specs.Shapes.{parcel_shape}
use Rattle.code_table.proofs.CodedLemmas.{length-store_of}
use Rattle.step_activity.proofs.FillingLemmas.{all_filled, filling, fills_on, next_within}
use Rattle.step_activity.proofs.actor.Actor.fill_all.Goals as goal

pub loop-place-init : goal.loop-place-init
loop-place-init c = record {
  way = λ a rs h. filling a rs c.args.places.now (parcel_shape c.args.value.now) c.args.self.now h;
  log = refl;
  code = refl;
}

pub fill-requires-clause-within : goal.fill-requires-clause-within
fill-requires-clause-within c =
    let one = c.requires.somebody in
    let old = c.args.self.now in
    let w = c.loop-place.invariant.way one.0 one.1 one.2 in
    let size = sym (length-store_of (arc_value old.activity.code) old.activity.state.store.cells) ∙ ap length one.2.activity.state.store in
    next_within one.0 one.1 c.args.places.now c.loop-place.place-index (parcel_shape c.args.value.now) c.loop-place.self w c.loop-place.self.activity.state.store.cells w.stands.activity.state.store (length old.activity.state.store.cells) size c.requires.within (omega arith)

pub fill-requires-clause-code : goal.fill-requires-clause-code
fill-requires-clause-code c = c.requires.code ∙ sym c.loop-place.invariant.code

pub loop-place-preserved : goal.loop-place-preserved
loop-place-preserved c = record {
  way = λ a rs h.
      let w = c.loop-place.invariant.way a rs h in
      fills_on a rs c.args.places.now c.loop-place.place-index (parcel_shape c.args.value.now) c.loop-place.self w c.fill.new.self (omega arith) (c.in_ok-fill.ensures.stands (record a { store = w.store }) rs w.stands);
  log = c.fill.ensures.log ∙ c.loop-place.invariant.log;
  code = c.fill.ensures.code ∙ c.loop-place.invariant.code;
}

pub returns-in_err-fill-clause-log : goal.returns-in_err-fill-clause-log
returns-in_err-fill-clause-log c = c.fill.ensures.log ∙ c.loop-place.invariant.log

pub returns-in_err-fill-clause-code : goal.returns-in_err-fill-clause-code
returns-in_err-fill-clause-code c = c.fill.ensures.code ∙ c.loop-place.invariant.code

pub returns-clause-stands : goal.returns-clause-stands
returns-clause-stands c = λ a rs h.
    all_filled a rs c.args.places.now c.loop-place.place-index (parcel_shape c.args.value.now) c.loop-place.self (c.loop-place.invariant.way a rs h) (omega arith)

pub returns-clause-log : goal.returns-clause-log
returns-clause-log c = c.loop-place.invariant.log

pub returns-clause-code : goal.returns-clause-code
returns-clause-code c = c.loop-place.invariant.code
