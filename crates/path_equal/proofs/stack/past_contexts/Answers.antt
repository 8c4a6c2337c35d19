use Rattle.path_equal.proofs.StackLemmas.{walked_all, walked_on}
use Rattle.path_equal.proofs.stack.past_contexts.Goals as goal

pub loop-frame-preserved : goal.loop-frame-preserved
loop-frame-preserved c = λ items stack.
    walked_on c.args.code.now c.args.part items c.args.start c.loop-frame.search c.past_context-search.result c.loop-frame.cursor.frames.now c.in-Some.others.now c.loop-frame.cursor.env.now c.loop-frame.cursor.operands.now c.in-Some.frame
    (c.loop-frame.invariant items stack) c.in-Some.ensures.some.0 c.in-Some.ensures.some.1 c.past_context-search.ensures.searched
    c.below-cursor.result.frames.now c.below-cursor.result.env.now c.below-cursor.result.operands.now c.below-cursor.ensures.frames c.below-cursor.ensures.env c.below-cursor.ensures.operands

pub returns : goal.returns
returns c = record {
  searched = λ items stack. walked_all c.args.code.now c.args.part items c.args.start c.loop-frame.search c.loop-frame.cursor.frames.now c.loop-frame.cursor.env.now c.loop-frame.cursor.operands.now (c.loop-frame.invariant items stack) c.in_default.ensures.none;
}
