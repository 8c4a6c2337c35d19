use Rattle.asp_model.specs.Chase.{chase}
use Rattle.future_table.specs.Values.{values_of}
use Rattle.step_activity.proofs.PassingLemmas.{at_first}
use Rattle.step_activity.proofs.actor.Actor.outlook.Goals as goal

pub outlook_from-requires-clause-passed : goal.outlook_from-requires-clause-passed
outlook_from-requires-clause-passed c = at_first c.args.self.now (chase (values_of c.args.futures.now)) c.requires.closed
