use Rattle.code_laws.proofs.MakeLemmas.{makes}
use Rattle.code_laws.proofs.rows.objects_are_made.Goals as goal

pub returns : goal.returns
returns c = record { law = makes }
