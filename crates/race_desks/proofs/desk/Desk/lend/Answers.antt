use Rattle.race_desks.proofs.TurnLemmas.{turn_further}
use Rattle.race_desks.proofs.desk.Desk.lend.Goals as goal

pub returns-in-None-clause-turn : goal.returns-in-None-clause-turn
returns-in-None-clause-turn g c =
    turn_further g.P.UpdatePolicy.answer g.P.UpdatePolicy.asked c.args.seat c.args.self.now c.lend_again.new.self c.lend_first.new.self c.lend_again.ensures.turn c.lend_first.ensures.turn
