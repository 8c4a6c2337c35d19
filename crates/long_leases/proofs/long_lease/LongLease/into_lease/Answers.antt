use Rattle.long_leases.proofs.LongLemmas.{has_stopped, is_lease}
use Rattle.long_leases.proofs.long_lease.LongLease.into_lease.Goals as goal

pub returns-clause-lease : goal.returns-clause-lease
returns-clause-lease c = λ h code l. is_lease h code c.args.self c.requires.within l

pub returns-clause-stopped : goal.returns-clause-stopped
returns-clause-stopped c = λ h code e. has_stopped h code c.args.self c.requires.within e
