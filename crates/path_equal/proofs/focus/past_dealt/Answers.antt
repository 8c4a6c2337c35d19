use Rattle.path_equal.proofs.CallLemmas.{dealt_found}
use Rattle.path_equal.proofs.focus.past_dealt.Goals as goal

pub returns : goal.returns
returns c = record {
  searched = λ t d. dealt_found c.args.code.now c.args.spread c.args.own.now c.args.number c.args.members t d c.laid_out-laid.result c.args.start c.past-search.result c.past_left.result (c.laid_out-laid.ensures.laid d.laid) c.past-search.ensures.searched c.past_left.ensures.searched;
}
