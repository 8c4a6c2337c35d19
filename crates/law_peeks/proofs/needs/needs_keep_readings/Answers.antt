use Rattle.law_peeks.proofs.ReadAlikeLemmas.{needs_keep_readings}
use Rattle.law_peeks.proofs.needs.needs_keep_readings.Goals as goal

pub returns : goal.returns
returns c = needs_keep_readings
