use Rattle.std.proofs.Common.{refl}
use Rattle.path_equal.proofs.ContextLemmas.{begun_found}
use Rattle.path_equal.proofs.focus.past_begun.Goals as goal

pub returns : goal.returns
returns c = record {
  searched = λ t b. begun_found c.args.code.now c.args.places.now c.args.own.now c.args.number c.args.from _ t c.args.start c.past-search.result c.past_behind.result b refl c.past-search.ensures.searched c.past_behind.ensures.searched;
}
