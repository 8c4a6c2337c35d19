use Rattle.long_leases.specs.declared.long_lease.LongLease.{LongLease}
use Rattle.long_leases.proofs.LongLemmas.{is_long}
use Rattle.long_leases.proofs.long_lease.LongLease.of.Goals as goal

pub returns-clause-long : goal.returns-clause-long
returns-clause-long c = λ h code l. is_long h code (record { lease = c.args.lease; rounds = c.args.rounds }) l
