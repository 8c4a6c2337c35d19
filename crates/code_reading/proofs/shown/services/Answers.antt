use Rattle.std.proofs.Common.{◌∙◌, List, ap, map, subst}
use Rattle.asp_model.specs.Shapes.{tree_of}
use Rattle.asp_model.specs.Term.{Tree}
use Rattle.code_reading.specs.declared.shown.Suspended.{Suspended}
use Rattle.code_reading.specs.Shown.{IsSegment, service_shown}
use Rattle.code_reading.proofs.WalkLemmas.{found_all, services_step}
use Rattle.code_reading.proofs.shown.services.Goals as goal

pub loop-frame-preserved : goal.loop-frame-preserved
loop-frame-preserved c = λ items alone stack futures.
    let s : Suspended = record { contexts = c.in_ok-contexts.contexts; future = c.in_ok-copy_name.field-0 } in
    services_step c.args.code.now items c.loop-frame.found.items c.loop-frame.futures.now c.in-Some-newest.older.now c.in-Some-newest.future.now c.loop-frame.cursor.frames.now c.in-Some.others.now
    c.loop-frame.cursor.env.now c.loop-frame.cursor.operands.now c.in-Some.frame s (c.loop-frame.invariant items alone stack futures) c.in-Some.ensures.some c.in-Some-newest.ensures.some c.in_ok-copy_name.ensures.same
    c.below-inner.result.frames.now c.below-inner.result.env.now c.below-inner.result.operands.now c.below-inner.ensures.frames c.below-inner.ensures.env c.below-inner.ensures.operands
    c.in_ok-contexts.left.frames.now c.in_ok-contexts.left.env.now c.in_ok-contexts.left.operands.now
    (λ xs below. subst (λ (us : List Tree). IsSegment c.args.code.now xs us (map tree_of c.in_ok-contexts.contexts.items) c.in_ok-contexts.left.frames.now c.in_ok-contexts.left.env.now c.in_ok-contexts.left.operands.now)
    (ap (map tree_of) c.new.ensures.items) (c.in_ok-contexts.ensures.segment xs below))
    c.push.new.self.items c.in_ok-push.ensures.items

pub returns : goal.returns
returns c = record {
  services = λ items alone stack futures.
      ap (map service_shown) c.reverse.ensures.items
      ∙ found_all c.args.code.now items c.loop-frame.found.items c.loop-frame.futures.now c.loop-frame.cursor.frames.now c.loop-frame.cursor.env.now c.loop-frame.cursor.operands.now
      (c.loop-frame.invariant items alone stack futures) c.in_default.ensures.none;
}
