use Rattle.code_table.proofs.UsesLemmas.{locations_are_uses}
use Rattle.code_table.proofs.laws.locations_are_uses.Goals as goal

pub returns : goal.returns
returns c = record { law = locations_are_uses }
