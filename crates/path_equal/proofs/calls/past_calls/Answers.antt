use Rattle.std.proofs.Common.{arith}
use Rattle.path_equal.proofs.CallLemmas.{calls_over, next_call}
use Rattle.path_equal.proofs.calls.past_calls.Goals as goal

pub loop-i-preserved : goal.loop-i-preserved
loop-i-preserved c = λ size.
    next_call c.args.spread c.args.given.now c.args.members.now c.args.beside.now c.loop-i.i c.args.start c.loop-i.search c.past_call-search.result c.loop-i-test.true size (c.loop-i.invariant size) (c.past_call-search.ensures.searched c.loop-i-test.true size)

pub returns : goal.returns
returns c = record {
  searched = λ size. calls_over c.args.spread c.args.given.now c.args.members.now c.args.beside.now c.loop-i.i c.args.start c.loop-i.search (omega (arith, c.loop-i-test.false)) (c.loop-i.invariant size);
}
