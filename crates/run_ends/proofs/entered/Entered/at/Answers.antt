use Rattle.run_ends.proofs.EnterLemmas.{value_at}
use Rattle.run_ends.proofs.entered.Entered.at.Goals as goal

pub returns-else-spot-eq0 : goal.returns-else-spot-eq0
returns-else-spot-eq0 c = record {
  at = λ a values. value_at a c.args.self.now c.args.spot.home c.args.spot.cell c.index.result.now c.if-spot-eq0.false c.requires.within c.requires.numbered.count values c.index.ensures;
}
