use Rattle.std.proofs.Common.{◌∙◌, ap, refl}
use Rattle.asp_model.specs.Intent.{Done, Running, Serving}
use Rattle.asp_model.specs.Shapes.{status_shape}
use Rattle.run_waits.proofs.WaitLemmas.{none_waited}
use Rattle.run_waits.proofs.waits.wait_of.Goals as goal

pub returns-in-Done-clause-waits : goal.returns-in-Done-clause-waits
returns-in-Done-clause-waits c d n told st = none_waited d n Done (st ∙ ap status_shape c.in-Done.is) refl

pub returns-in-Serving-clause-waits : goal.returns-in-Serving-clause-waits
returns-in-Serving-clause-waits c d n told st = none_waited d n Serving (st ∙ ap status_shape c.in-Serving.is) refl

pub returns-in-Running-clause-waits : goal.returns-in-Running-clause-waits
returns-in-Running-clause-waits c d n told st = none_waited d n Running (st ∙ ap status_shape c.in-Running.is) refl

pub returns-in-Awaits-clause-waits : goal.returns-in-Awaits-clause-waits
returns-in-Awaits-clause-waits c d n told st = c.receiver.ensures.waits d n told (st ∙ ap status_shape c.in-Awaits.is)
