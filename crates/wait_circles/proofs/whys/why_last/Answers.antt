use Rattle.std.proofs.Common.{ap, sym}
use Rattle.asp_model.specs.Shapes.{status_shape}
use Rattle.wait_circles.proofs.WhyLemmas.{none_named, why_ended, why_faulted, why_running, why_unserved, why_values}
use Rattle.wait_circles.proofs.whys.why_last.Goals as goal

pub returns-in-None : goal.returns-in-None
returns-in-None c d zs n m s stuck of at behind none = none_named c.args.activities.now c.args.last m (sym c.in-None.ensures) at

pub returns-in-Done : goal.returns-in-Done
returns-in-Done c d zs n m s stuck of at behind none = why_ended d s stuck c.args.activities.now of zs n m c.args.last c.in-Some.activity.now (sym c.in-Some.ensures) at behind none (ap status_shape c.in-Done.is)

pub returns-in-Serving : goal.returns-in-Serving
returns-in-Serving c d zs n m s stuck of at behind none = why_unserved d s stuck c.args.activities.now of zs n m c.args.last c.in-Some.activity.now (sym c.in-Some.ensures) at behind none (ap status_shape c.in-Serving.is)

pub returns-in-Running : goal.returns-in-Running
returns-in-Running c d zs n m s stuck of at behind none = why_running d s stuck c.args.activities.now of zs n m c.args.last c.in-Some.activity.now (sym c.in-Some.ensures) at behind none (ap status_shape c.in-Running.is)

pub returns-in-Awaits : goal.returns-in-Awaits
returns-in-Awaits c d zs n m s stuck of at behind none = why_values d s stuck c.args.activities.now of zs n m c.args.last c.in-Some.activity.now (sym c.in-Some.ensures) at behind none _ (ap status_shape c.in-Awaits.is)

pub returns-in-Faulted : goal.returns-in-Faulted
returns-in-Faulted c d zs n m s stuck of at behind none = why_faulted d s stuck c.args.activities.now of zs n m c.args.last c.in-Some.activity.now (sym c.in-Some.ensures) at behind none _ (ap status_shape c.in-Faulted.is)
