use Rattle.std.proofs.Common.{length, drop, ap, ◌∙◌}
use Rattle.path_equal.proofs.CallLemmas.{left_over}
use Rattle.path_equal.proofs.calls.past_left.Goals as goal

pub returns : goal.returns
returns c = record {
  searched = λ size. left_over c.args.spread c.args.laid.given.now c.args.laid.members.now c.args.laid.beside.now (length c.args.laid.results.now) c.args.holes c.behind-members.result.now c.behind-beside.result.now c.args.start c.past_calls.result
      (c.behind-members.ensures.places ∙ ap (drop c.args.holes) c.behind.ensures.places) (c.behind-beside.ensures.places ∙ ap (drop c.args.holes) c.behind-2.ensures.places) c.past_calls.ensures.searched size;
}
