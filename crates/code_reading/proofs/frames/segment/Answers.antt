use Rattle.std.proofs.Common.{◌≡◌, ◌<◌, ◌≤◌, List, ap, arith, length, map}
use Rattle.asp_model.specs.Shapes.{tree_of}
use Rattle.step_machine.specs.declared.frames.Frame.{Frame}
use Rattle.code_reading.proofs.WalkLemmas.{fewer, segment_step}
use Rattle.code_reading.proofs.frames.segment.Goals as goal

pub loop-frame-preserved : goal.loop-frame-preserved
loop-frame-preserved c =
    let frames : List Frame = c.loop-frame.cursor.frames.now in
    let others : List Frame = c.in-Some.others.now in
    let f : Frame = c.in-Some.frame in
    let less : length others < length frames = fewer frames others f c.in-Some.ensures.some.1 in
    let same : length c.below-cursor.result.frames.now ≡ length others = ap length c.below-cursor.ensures.frames in
    let low : length frames ≤ length c.args.start.frames.now = c.loop-frame.invariant.shorter in
    record {
      shorter = omega (arith, less, same, low);
      walked = λ items stack.
          segment_step c.args.code.now items (map tree_of c.args.first.items) c.loop-frame.terms.items c.push.new.self.items frames others c.loop-frame.cursor.env.now c.loop-frame.cursor.operands.now f c.in_ok-frame_term.field-0
          (c.loop-frame.invariant.walked items stack) c.in-Some.ensures.some.0 c.in-Some.ensures.some.1 c.in_ok-frame_term.ensures.context c.in_ok-push.ensures.items
          c.below-cursor.result.frames.now c.below-cursor.result.env.now c.below-cursor.result.operands.now c.below-cursor.ensures.frames c.below-cursor.ensures.env c.below-cursor.ensures.operands;
    }
