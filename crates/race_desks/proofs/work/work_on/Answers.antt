use Rattle.std.proofs.Common.{Some}
use Rattle.race_desks.proofs.OutLemmas.{finished}
use Rattle.race_desks.proofs.work.work_on.Goals as goal

pub returns-clause-lease : goal.returns-clause-lease
returns-clause-lease g c h code is =
    let e = c.run-ran.ensures in
    finished c.run-ran.result h code c.run-ran.new.self (e.lease h code is) (e.ends h code is) e.gives_up

pub returns-clause-row : goal.returns-clause-row
returns-clause-row g c = let e = c.run-ran.ensures in λ i. Some (e.number i, e.burst i, e.rounds i)
