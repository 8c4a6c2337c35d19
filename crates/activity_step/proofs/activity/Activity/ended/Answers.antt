use Rattle.std.proofs.Common.{◌≡◌, Option}
use Rattle.std.specs.Option.{option_map}
use Rattle.std.specs.declared.alloc.Global.{Global}
use Rattle.std.specs.declared.sync.Arc.{Arc}
use Rattle.code_table.specs.declared.future.Future.{Future}
use Rattle.code_table.specs.Cells.{held_future}
use Rattle.activity_step.specs.declared.activity.Activity.{Activity}
use Rattle.activity_step.specs.Activities.{StandsFor}
use Rattle.activity_step.specs.Standings.{going_on}
use Rattle.activity_step.proofs.RunLemmas.{noted_is}
use Rattle.activity_step.proofs.activity.Activity.ended.Goals as goal

pub returns-clause-ended : goal.returns-clause-ended
returns-clause-ended c = λ a place v h splits newest_v.
    noted_is c.noted.result c.end-outcome.result c.noted.new.self c.end-outcome.new.self (λ (x : Activity) (f : Option (Arc Future Global)). (option_map held_future f ≡ a.present) × StandsFor x (going_on v a)) c.noted.ensures.outcome c.noted.ensures.same (c.end-outcome.ensures.ended a place v h splits newest_v)
