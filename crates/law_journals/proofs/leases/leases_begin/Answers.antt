use Rattle.law_journals.proofs.BurstLemmas.{leases_begin}
use Rattle.law_journals.proofs.leases.leases_begin.Goals as goal

pub returns : goal.returns
returns c = leases_begin
