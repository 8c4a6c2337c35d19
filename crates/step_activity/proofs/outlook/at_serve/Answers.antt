use Rattle.std.proofs.Common.{◌∙◌, sym}
use Rattle.step_activity.proofs.OutlookLemmas.{serve_rests, serve_steps}
use Rattle.step_activity.proofs.outlook.at_serve.Goals as goal

pub returns-in-Some : goal.returns-in-Some
returns-in-Some c = record { outlook = λ n a cs o e. serve_steps n a cs c.in-Some._number o (sym c.in-Some.is ∙ e) }

pub returns-in-None : goal.returns-in-None
returns-in-None c = record { outlook = λ n a cs o e. serve_rests n a cs o (sym c.in-None.is ∙ e) }
