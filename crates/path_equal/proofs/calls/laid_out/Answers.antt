use Rattle.path_equal.proofs.CallLemmas.{parts_are}
use Rattle.path_equal.proofs.calls.laid_out.Goals as goal

pub returns : goal.returns
returns c = record {
  laid = λ l. parts_are c.args.code.now c.args.spread c.args.number c.args.members c.args.own.now l _ c.given_count-given.result c.beside_count-beside.result c.behind-called.result.now c.behind-rest.result.now
      c.given_count-given.ensures.count c.beside_count-beside.ensures.count c.behind-called.ensures.places c.behind-rest.ensures.places c.up_to.ensures.places c.up_to-2.ensures.places c.up_to-3.ensures.places c.behind.ensures.places;
}
